-- What a sink took behind a room that held nothing at first.
use Rattle.std.proofs.Common.{◌≡◌, ◌∙◌, ℕ, List, [], ◌++◌, Some, None, Result, Ok, Err, length, take, drop, refl, sym, ap, arith, append-nil, append_assoc, take-append-drop}
use Rattle.std.proofs.lemmas.List.{append_cancel_left, take_all}
use lib.Seq.{take-append_seam}
use Rattle.std.specs.declared.option.Option.{Option}
use Rattle.std.specs.Io.KnownBytes.{Appends, Keeps, WriteAppends, append_known}
use Rattle.std.proofs.KnownBytes.{Appends-trans}
use Rattle.fmt_ports.specs.Causes.{AppendsPart}
use Rattle.fmt_ports.specs.Taken.{Grows}

-- what grew by some bytes
pub grows_by : (a b : Option (List ℕ)) (more : List ℕ) → Appends a b more → Grows a b
grows_by None b more came = refl
grows_by (Some x) None more came = absurd came
grows_by (Some x) (Some y) more came = ap Some (ap (take (length x)) came ∙ take-append_seam x more)

-- has these behind what it had
grown_by : (a b : Option (List ℕ)) → Grows a b → (more : List ℕ) × Appends a b more
grown_by None b grows = ([], tt)
grown_by (Some x) None grows = cc
grown_by (Some x) (Some y) grows =
    let front : take (length x) y ≡ x = cc in
    (drop (length x) y, sym (take-append-drop (length x) y) ∙ ap (λ l. l ++ drop (length x) y) front)

pub grows_on : (a b c : Option (List ℕ)) → Grows a b → Grows b c → Grows a c
grows_on a b c first last =
    let front = grown_by a b first in
    let rest = grown_by b c last in
    grows_by a c (front.0 ++ rest.0) (Appends-trans a b c front.0 rest.0 front.1 rest.1)

grows_kept : (a b : Option (List ℕ)) → Keeps a b → Grows a b
grows_kept None b kept = refl
grows_kept (Some x) None kept = absurd kept
grows_kept (Some x) (Some y) kept = ap Some (ap (take (length x)) kept ∙ take_all (length x) x (omega arith))

-- a write lets bytes that are told stay
pub grows_by_write : {E : Type 0} (a b : Option (List ℕ)) (r : Result ℕ E) (bytes : List ℕ) → WriteAppends a b r bytes → Grows a b
grows_by_write a b (Ok n) bytes written = grows_by a b (take n bytes) written
grows_by_write a b (Err e) bytes kept = grows_kept a b kept

-- what is still held follows what was taken of a text
pub part_behind : (a b : Option (List ℕ)) (old held bytes : List ℕ) → old ≡ [] → Grows a b → AppendsPart (append_known a old) (append_known b held) bytes → AppendsPart a b bytes
part_behind None b old held bytes none grows part = ([], bytes, refl, tt)
part_behind (Some x) None old held bytes none grows part = cc
part_behind (Some x) (Some y) old held bytes none grows part =
    let (more, came) = grown_by (Some x) (Some y) grows in
    let same : x ++ (more ++ held) ≡ x ++ part.0 =
    sym (append_assoc x more held) ∙ (ap (λ l. l ++ held) (sym came) ∙ (part.3 ∙ ap (λ l. l ++ part.0) (ap (λ l. x ++ l) none ∙ append-nil x))) in
    let front : more ++ held ≡ part.0 = append_cancel_left x (more ++ held) part.0 same in
    (more, held ++ part.1, part.2 ∙ (ap (λ l. l ++ part.1) (sym front) ∙ append_assoc more held part.1), came)

-- a part of a text that is told stays one where what is told is kept
pub part_kept : (a b c : Option (List ℕ)) (bytes : List ℕ) → AppendsPart a b bytes → Keeps b c → AppendsPart a c bytes
part_kept None b c bytes part kept = ([], bytes, refl, tt)
part_kept (Some x) None c bytes part kept = absurd part.3
part_kept (Some x) (Some y) None bytes part kept = absurd kept
part_kept (Some x) (Some y) (Some z) bytes part kept = (part.0, part.1, part.2, kept ∙ part.3)

-- a write behind a room from which all was handed on
pub written_behind : {E : Type 0} (a b c : Option (List ℕ)) (old held later bytes : List ℕ) (r : Result ℕ E) → Keeps (append_known a old) (append_known b held)
    → held ≡ [] → later ≡ held → WriteAppends b c r bytes → WriteAppends (append_known a old) (append_known c later) r bytes
written_behind None b c old held later bytes (Ok n) kept none same written = tt
written_behind None b c old held later bytes (Err e) kept none same written = tt
written_behind (Some x) None c old held later bytes r kept none same written = absurd kept
written_behind (Some x) (Some y) None old held later bytes (Ok n) kept none same written = absurd written
written_behind (Some x) (Some y) None old held later bytes (Err e) kept none same written = absurd written
written_behind (Some x) (Some y) (Some z) old held later bytes (Ok n) kept none same written =
    ap (λ l. z ++ l) (same ∙ none)
    ∙ (append-nil z ∙ (written ∙ ap (λ l. l ++ take n bytes) (sym (append-nil y) ∙ (ap (λ l. y ++ l) (sym none) ∙ kept))))
written_behind (Some x) (Some y) (Some z) old held later bytes (Err e) kept none same written =
    ap (λ l. z ++ l) (same ∙ none) ∙ (append-nil z ∙ (written ∙ (sym (append-nil y) ∙ (ap (λ l. y ++ l) (sym none) ∙ kept))))
