-- From the characters that a text begins with to an item of it, with its place and its bytes.
use Rattle.std.proofs.Common.{◌≡◌, ◌||◌, Bool, true, ℕ, suc, zero, ◌-◌, ◌≤◌, ◌<◌, List, [], ◌∷◌, ◌++◌, length, take, drop, refl, sym, ◌∙◌, ap, subst, arith}
use Rattle.std.proofs.lemmas.List.{take-append-drop}
use Rattle.c_chars.proofs.Steps.{onwards}
use Rattle.c_chars.specs.Coming.{AreBetween, passed}
use Rattle.c_chars.specs.Characters.{bytes_of}
use Rattle.c_chars.specs.declared.Dialect.{Dialect}
use Rattle.c_chars.specs.declared.LogicalChar.{LogicalChar}
use Rattle.std.specs.Prelude.{IsTrue}
use Rattle.std.specs.List.{list_all, prefix_len}
use Rattle.c_grammar.specs.Grammar.{is_white, is_new_line}
use Rattle.c_grammar.specs.Items.{Place, is_gap, IsNext, past_gap, past_item}
use Rattle.c_lexer.specs.Reading.{IsNextItem}
use Rattle.c_lexer.proofs.Runs.{passes}
use Rattle.c_grammar.specs.Text.{begin_of, finish_of, raw_of}
use Rattle.item_kinds.specs.declared.ItemKind.{ItemKind}

pub behind_chars : (d : Dialect) (at n : ℕ) (s : List LogicalChar) → (passed d at s n).chars ≡ drop n s
behind_chars d at zero s = refl
behind_chars d at (suc n) [] = refl
behind_chars d at (suc n) (c ∷ s) = behind_chars d c.to n s

pub behind_dialect : (d : Dialect) (at n : ℕ) (s : List LogicalChar) → (passed d at s n).dialect ≡ d
behind_dialect d at zero s = refl
behind_dialect d at (suc n) [] = refl
behind_dialect d at (suc n) (c ∷ s) = behind_dialect d c.to n s

-- it stands where the last character that was passed ends
pub behind_at : (d : Dialect) (at n : ℕ) (s : List LogicalChar) → 0 < n → n ≤ length s → (passed d at s n).at ≡ finish_of (take n s)
behind_at d at zero s some within = absurd (omega arith)
behind_at d at (suc n) [] some within = absurd (omega arith)
behind_at d at (suc zero) (c ∷ s) some within = refl
behind_at d at (suc (suc n)) (c ∷ []) some within = absurd (omega arith)
behind_at d at (suc (suc n)) (c ∷ e ∷ s) some within = behind_at d c.to (suc n) (e ∷ s) (omega arith) (omega arith)

pub between_behind : (d : Dialect) (at n high : ℕ) (s : List LogicalChar) → AreBetween at s high → AreBetween (passed d at s n).at (passed d at s n).chars high
between_behind d at zero high s b = b
between_behind d at (suc n) high [] b = b
between_behind d at (suc n) high (c ∷ s) b = between_behind d c.to n high s b.2

pub at_within : (at high : ℕ) (s : List LogicalChar) → AreBetween at s high → at ≤ high
at_within at high [] b = b
at_within at high (c ∷ s) b = let first : at ≤ c.from = b.0 in let some : c.from < c.to = b.1 in let rest = at_within c.to high s b.2 in omega arith

-- where it stands behind n characters, not before its start and not behind the text's end
pub behind_within : (d : Dialect) (at n high : ℕ) (s : List LogicalChar) → AreBetween at s high → (passed d at s n).at ≤ high
behind_within d at n high s b = at_within (passed d at s n).at high (passed d at s n).chars (between_behind d at n high s b)

pub starts_before : (d : Dialect) (at n high : ℕ) (c : LogicalChar) (s : List LogicalChar) → AreBetween at (c ∷ s) high → 0 < n → c.from ≤ (passed d at (c ∷ s) n).at
starts_before d at zero high c s b some = absurd (omega arith)
starts_before d at (suc n) high c s b some = let first : c.from < c.to = b.1 in let rest = onwards d c.to n high s b.2 in omega arith

-- the bytes of the first n characters
pub raw_is : (d : Dialect) (at n high : ℕ) (c : LogicalChar) (s gap : List LogicalChar) (text : List ℕ) (kind : ItemKind) → 0 < n → n ≤ length (c ∷ s) →
    take ((passed d at (c ∷ s) n).at - c.from) (drop c.from text) ≡ raw_of text (record { kind = kind; gap = gap; chars = take n (c ∷ s) })
raw_is d at zero high c s gap text kind some within = absurd (omega arith)
raw_is d at (suc n) high c s gap text kind some within = let e = behind_at d at (suc n) (c ∷ s) some within in rw e refl

pub bytes_take : (n : ℕ) (s : List LogicalChar) → bytes_of (take n s) ≡ take n (bytes_of s)
bytes_take zero s = refl
bytes_take (suc n) [] = refl
bytes_take (suc n) (c ∷ s) = ap (λ z. c.byte ∷ z) (bytes_take n s)

pub bytes_drop : (n : ℕ) (s : List LogicalChar) → bytes_of (drop n s) ≡ drop n (bytes_of s)
bytes_drop zero s = refl
bytes_drop (suc n) [] = refl
bytes_drop (suc n) (c ∷ s) = bytes_drop n s

begin_is : (n : ℕ) (c : LogicalChar) (s : List LogicalChar) → 0 < n → begin_of (take n (c ∷ s)) ≡ c.from
begin_is zero c s some = absurd (omega arith)
begin_is (suc n) c s some = refl

abbrev is_blank : ℕ → Bool
is_blank c = is_white c || is_new_line c

-- A gap of n characters, and then an item of m, that is next: the text's next item.
pub step_of : (d : Dialect) (text : List ℕ) (place : Place) (from to at n m high : ℕ) (x : List LogicalChar) (c : LogicalChar) (s : List LogicalChar) (kind : ItemKind) →
    n ≡ prefix_len is_blank (bytes_of x) → drop n x ≡ c ∷ s → 0 < m → m ≤ length (c ∷ s) →
    IsNext d (past_gap place (take n (bytes_of x))) kind (take m (bytes_of (c ∷ s))) (drop m (bytes_of (c ∷ s))) →
    IsNextItem (record { text = text; dialect = d; left = record { place = place; chars = x }; at = from })
    (record { text = text; dialect = d; left = record { place = past_item d (past_gap place (take n (bytes_of x))) kind (take m (bytes_of (c ∷ s))); chars = drop m (c ∷ s) }; at = to })
    kind c.from (take ((passed d at (c ∷ s) m).at - c.from) (drop c.from text))
step_of d text place from to at n m high x c s kind n_is rest some within next =
    let gap_bytes : bytes_of (take n x) ≡ take n (bytes_of x) = bytes_take n x in
    let spelled : bytes_of (take m (c ∷ s)) ≡ take m (bytes_of (c ∷ s)) = bytes_take m (c ∷ s) in
    let left : bytes_of (drop m (c ∷ s)) ≡ drop m (bytes_of (c ∷ s)) = bytes_drop m (c ∷ s) in
    let white : is_gap (take n (bytes_of x)) ≡ true = subst (λ k. list_all is_blank (take k (bytes_of x)) ≡ true) (sym n_is) (passes is_blank (bytes_of x)) in
    record {
      read = record { kind = kind; gap = take n x; chars = take m (c ∷ s) };
      step = record {
        whole = sym (take-append-drop n x) ∙ ap (λ z. take n x ++ z) (rest ∙ sym (take-append-drop m (c ∷ s)));
        white = subst (λ z. IsTrue (is_gap z)) (sym gap_bytes) white;
        next = subst (λ z. IsNext d (past_gap place z) kind (bytes_of (take m (c ∷ s))) (bytes_of (drop m (c ∷ s)))) (sym gap_bytes)
            (subst (λ z. IsNext d (past_gap place (take n (bytes_of x))) kind z (bytes_of (drop m (c ∷ s)))) (sym spelled)
            (subst (λ z. IsNext d (past_gap place (take n (bytes_of x))) kind (take m (bytes_of (c ∷ s))) z) (sym left) next));
        place = ap (λ z. past_item d (past_gap place z) kind (take m (bytes_of (c ∷ s)))) (sym gap_bytes) ∙ ap (λ z. past_item d (past_gap place (bytes_of (take n x))) kind z) (sym spelled);
      };
      kind_is = refl;
      start_is = sym (begin_is m c s some);
      raw_is = raw_is d at m high c s (take n x) text kind some within;
    }
