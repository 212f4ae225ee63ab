-- What a source that tells its bytes gave, and what a sink took of some bytes.
use Rattle.std.proofs.Common.{◌≡◌, ◌∙◌, ℕ, ◌+◌, ◌-◌, ◌≤◌, List, ◌++◌, Result, Ok, Err, OnOk, IfOk, length, take, drop, sym, subst, ap, arith}
use Rattle.std.specs.List.{slice_range}
use Rattle.std.specs.Prelude.{is_ok, if◌then◌else◌}
use Rattle.std.specs.declared.option.Option.{Option}
use Rattle.std.proofs.lemmas.List.{drop-append-le, drop-drop, drop-take, length-append, length-drop, length-take, length-take-le, take-append-drop, take-append-le, take_all, take-take}
use Rattle.std.proofs.Math.Seq.{take-add, take-append-add}
use Rattle.std.specs.Io.KnownBytes.{Appends, Consumes}
use Rattle.std.proofs.KnownBytes.{Appends-trans, Consumes-trans}
use Rattle.fmt_ports.specs.Causes.{AppendsPart}
use Rattle.fmt_ports.specs.Whole.{ConsumesAtMost}
use Rattle.fmt_ports.proofs.Parts.{part_of_rest}

-- all within a limit, and then one more buffer at most
pub Consumes-buffer : (a b c : Option (List ℕ)) (all buffer : List ℕ) (n limit room : ℕ) → Consumes a b all → Consumes b c (take n buffer)
    → length all ≤ limit → length buffer ≡ room → ConsumesAtMost (limit + room) a c
Consumes-buffer a b c all buffer n limit room before last within is = (
  all ++ take n buffer,
  rw (length-append all (take n buffer), length-take n buffer) (omega (arith, is, within)),
  Consumes-trans a b c all (take n buffer) before last,
)

-- the first bytes of some, and then those behind them up to a place
front_on : (bytes : List ℕ) (n count : ℕ) → n ≤ count → take count bytes ≡ take n (take count bytes) ++ slice_range bytes n count
front_on bytes n count within =
    let whole : n + (count - n) ≡ count = omega (arith, within) in
    ap (λ k. take k bytes) (sym whole) ∙ (take-add n (count - n) bytes ∙ ap (λ l. l ++ slice_range bytes n count) (sym (take-take n count bytes within)))

front_then : (a b c : Option (List ℕ)) (bytes : List ℕ) (n count : ℕ) → n ≤ count → Appends a b (take n (take count bytes)) → Appends b c (slice_range bytes n count) → Appends a c (take count bytes)
front_then a b c bytes n count within first rest = subst (Appends a c) (sym (front_on bytes n count within)) (Appends-trans a b c _ _ first rest)

-- where that is said
pub front_then_ok : {T E : Type 0} (a b c : Option (List ℕ)) (bytes : List ℕ) (n count : ℕ) (r : Result T E) → n ≤ count → Appends a b (take n (take count bytes))
    → IfOk r (λ _. Appends b c (slice_range bytes n count)) → IfOk r (λ _. Appends a c (take count bytes))
front_then_ok a b c bytes n count (Ok v) within first rest = front_then a b c bytes n count within first rest
front_then_ok a b c bytes n count (Err e) within first rest = tt

pub front_then_part : (a b c : Option (List ℕ)) (bytes : List ℕ) (n count : ℕ) → n ≤ count → Appends a b (take n (take count bytes)) → AppendsPart b c (slice_range bytes n count)
    → AppendsPart a c (take count bytes)
front_then_part a b c bytes n count within first rest = part_of_rest a b c (take n (take count bytes)) (slice_range bytes n count) (take count bytes) (front_on bytes n count within) first rest

-- all of the bytes were taken where that is said
pub all_taken : {T E : Type 0} (a b : Option (List ℕ)) (n : ℕ) (bytes : List ℕ) (r : Result T E) → Appends a b (take n bytes) → OnOk r (n ≡ length bytes)
    → IfOk r (λ _. Appends a b bytes)
all_taken a b n bytes (Ok v) came all = subst (Appends a b) (take_all n bytes (omega (arith, all))) came
all_taken a b n bytes (Err e) came all = tt

-- and a front of them in any case
pub front_taken : (a b : Option (List ℕ)) (n : ℕ) (bytes : List ℕ) → Appends a b (take n bytes) → AppendsPart a b bytes
front_taken a b n bytes came = (take n bytes, drop n bytes, sym (take-append-drop n bytes), came)

-- ## What a room holds: the bytes from one place up to another

-- behind what is held come the first of more bytes, all of which are copied there
pub front_added : (items bytes behind : List ℕ) (sent end count : ℕ) → sent ≤ end → end ≤ length items → count ≤ length bytes
    → slice_range (take end items ++ (bytes ++ behind)) sent (end + count) ≡ slice_range items sent end ++ take count bytes
front_added items bytes behind sent end count first within few =
    let front : List ℕ = take end items in
    let rest : List ℕ = bytes ++ behind in
    let long : length front ≡ end = length-take-le end items within in
    let far : sent ≤ length front = omega (arith, first, long) in
    let held : List ℕ = drop sent front in
    let len : length held ≡ end - sent = length-drop sent front ∙ ap (λ (n : ℕ). n - sent) long in
    let whole : (end + count) - sent ≡ length held + count = omega (arith, first, len) in
    let split : sent + (end - sent) ≡ end = omega (arith, first) in
    let is : held ≡ slice_range items sent end = ap (λ (n : ℕ). drop sent (take n items)) (sym split) ∙ drop-take sent (end - sent) items in
    ap (λ (l : List ℕ). take ((end + count) - sent) l) (drop-append-le sent front rest far)
    ∙ (ap (λ (n : ℕ). take n (held ++ rest)) whole
    ∙ (take-append-add held rest count
    ∙ (ap (λ (l : List ℕ). held ++ l) (take-append-le count bytes behind few)
    ∙ ap (λ (l : List ℕ). l ++ take count bytes) is)))

-- how many bytes are held
pub held_length : (items : List ℕ) (sent end : ℕ) → end ≤ length items → length (slice_range items sent end) ≡ end - sent
held_length items sent end within =
    let left : length (drop sent items) ≡ length items - sent = length-drop sent items in
    length-take-le (end - sent) (drop sent items) (omega (arith, within, left))

-- those that stay held where the first of them go
pub rest_held : (items : List ℕ) (sent end count : ℕ) → sent + count ≤ end → slice_range items (sent + count) end ≡ drop count (slice_range items sent end)
rest_held items sent end count within =
    let more : count + (end - (sent + count)) ≡ end - sent = omega (arith, within) in
    ap (λ (l : List ℕ). take (end - (sent + count)) l) (sym (drop-drop count sent items))
    ∙ (sym (drop-take count (end - (sent + count)) (drop sent items)) ∙ ap (λ (n : ℕ). drop count (take n (drop sent items))) more)

-- what is held stays so where the room is widened
pub held_wider : (items more : List ℕ) (sent end : ℕ) → sent ≤ end → end ≤ length items → slice_range (items ++ more) sent end ≡ slice_range items sent end
held_wider items more sent end first within =
    let left : length (drop sent items) ≡ length items - sent = length-drop sent items in
    ap (λ (l : List ℕ). take (end - sent) l) (drop-append-le sent items more (omega (arith, first, within)))
    ∙ take-append-le (end - sent) (drop sent items) more (omega (arith, within, left))

-- and where it may be
pub held_still : {T E : Type 0} (result : Result T E) (items more new : List ℕ) (sent end : ℕ) → sent ≤ end → end ≤ length items → new ≡ (if is_ok result then items ++ more else items)
    → slice_range new sent end ≡ slice_range items sent end
held_still (Ok v) items more new sent end first within is = ap (λ (l : List ℕ). slice_range l sent end) is ∙ held_wider items more sent end first within
held_still (Err e) items more new sent end first within is = ap (λ (l : List ℕ). slice_range l sent end) is

pub still_within : {T E : Type 0} (result : Result T E) (items more new : List ℕ) (end : ℕ) → end ≤ length items → new ≡ (if is_ok result then items ++ more else items) → end ≤ length new
still_within (Ok v) items more new end within is =
    let len : length new ≡ length items + length more = ap (λ (l : List ℕ). length l) is ∙ length-append items more in
    omega (arith, within, len)
still_within (Err e) items more new end within is = let len : length new ≡ length items = ap (λ (l : List ℕ). length l) is in omega (arith, within, len)
