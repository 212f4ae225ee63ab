-- A text that is compared with what comes.
use Rattle.std.proofs.Common.{◌≡◌, ◌∙◌, ℕ, Bool, true, false, List, [], ◌∷◌, ◌++◌, Some, nat_eq, length, take, drop, get_or, ◌+◌, sym, ap, arith, append-nil}
use Rattle.std.specs.Bool.{◌==◌}
use Rattle.std.proofs.Math.Seq.{take-add}
use Rattle.std.proofs.lemmas.List.{take_all}
use Rattle.std.proofs.lemmas.Slice.Eq.{starts_is}
use Rattle.std.specs.Cmp.{unsigned_Decides}
use Rattle.std.specs.List.{starts_with}
use lib.Seq.{take-append_seam}
use Rattle.fmt_ports.specs.Same.{taken_of}

-- a text that begins with another one has it at its front
pub same_front : (a b : List ℕ) (begins : Bool) → begins ≡ starts_with nat_eq a b → begins ≡ true → take (length b) a ≡ take (length b) b
same_front a b begins is so =
    let whole : a ≡ b ++ drop (length b) a = (starts_is unsigned_Decides a b begins is).0 so in
    ap (take (length b)) whole ∙ (take-append_seam b (drop (length b) a) ∙ sym (take_all (length b) b (omega arith)))

-- more of the text was taken
pub more_taken : (text bytes : List ℕ) (at count byte : ℕ) (differs : Bool) → differs ≡ false → take count (drop at text) ≡ take count bytes
    → taken_of text (at + count) differs byte ≡ taken_of text at differs byte ++ take count bytes
more_taken text bytes at count byte true none same = cc
more_taken text bytes at count byte false none same =
    append-nil (take (at + count) text)
    ∙ (take-add at count text ∙ (ap (λ l. take at text ++ l) same ∙ ap (λ l. l ++ take count bytes) (sym (append-nil (take at text)))))

-- a byte that differs was taken
pub byte_taken : (text bytes : List ℕ) (at byte : ℕ) (differs empty : Bool) → differs ≡ false → empty ≡ (length bytes == 0) → empty ≡ false
    → taken_of text at true (get_or bytes 0 0) ≡ taken_of text at differs byte ++ take 1 bytes
byte_taken text bytes at byte true empty none is some = cc
byte_taken text [] at byte false empty none is some = cc
byte_taken text (b ∷ rest) at byte false empty none is some = ap (λ l. l ++ (b ∷ [])) (sym (append-nil (take at text)))

-- what a sink took that had taken nothing
pub wholly_taken : (old new bytes : List ℕ) → Some old ≡ Some [] → new ≡ old ++ bytes → new ≡ bytes
wholly_taken old new bytes none took =
    let empty : old ≡ [] = cc in
    took ∙ ap (λ l. l ++ bytes) empty
