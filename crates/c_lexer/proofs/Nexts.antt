-- From the item that is cut off to the one that stands next.
use Rattle.std.proofs.Common.{◌≡◌, true, ℕ, suc, zero, ◌≤◌, ◌<◌, List, [], ◌∷◌, length, take, drop, refl, ◌∙◌, sym, ap, subst, arith, inl, inr, ◌⊎◌}
use Rattle.std.specs.Prelude.{Option, Some, None, IfSome, MatchOption, Result, Ok, Err, MatchResult, IsTrue, IsFalse}
use Rattle.std.proofs.lemmas.List.{take-append-drop}
use Rattle.c_chars.specs.Characters.{bytes_of}
use Rattle.c_chars.specs.Coming.{Coming, passed, behind}
use Rattle.c_chars.specs.declared.Dialect.{Dialect}
use Rattle.c_chars.specs.declared.LogicalChar.{LogicalChar}
use Rattle.c_grammar.specs.Grammar.{Whole, IsHeaderName}
use Rattle.c_grammar.specs.Items.{Place, LineStart, AfterInclude, InText, BeginsHeader, IsLongest}
use Rattle.item_kinds.specs.declared.ItemKind.{ItemKind}
use Rattle.item_kinds.specs.declared.ItemKind.TheVariants.{HeaderName}
use Rattle.c_lexer.specs.Cut.{IsCutOff, IsStop}
use Rattle.c_lexer.specs.declared.cut.Stop.{Stop}
use Rattle.c_lexer.specs.Header.{begins_header, header_len}
use Rattle.c_lexer.specs.Next.{IsCutNext}
use Rattle.c_lexer.proofs.Headers.{header_cut, no_header}

-- as many of the characters as there are
record IsWithin (d : Dialect) (at n : ℕ) (s : List LogicalChar) : Type 0 where
  k : ℕ
  within : k ≤ length s
  some : 0 < n → 0 < length s → 0 < k
  same : passed d at s n ≡ passed d at s k
  front : take n (bytes_of s) ≡ take k (bytes_of s)
  rest : drop n (bytes_of s) ≡ drop k (bytes_of s)

within_all : (d : Dialect) (at n : ℕ) (s : List LogicalChar) → IsWithin d at n s
within_all d at zero s = record { k = zero; within = omega arith; some = λ h i. h; same = refl; front = refl; rest = refl }
within_all d at (suc n) [] = record { k = zero; within = omega arith; some = λ h i. absurd (omega (arith, i)); same = refl; front = refl; rest = refl }
within_all d at (suc n) (c ∷ s) =
    let more = within_all d c.to n s in
    let in_it : more.k ≤ length s = more.within in
    record { k = suc more.k; within = omega arith; some = λ h i. omega arith; same = more.same; front = ap (λ z. c.byte ∷ z) more.front; rest = more.rest }

pub next_of_cut : (place : Place) (x left : Coming) (kind : ItemKind) → 0 < length x.chars → (place ≡ AfterInclude → BeginsHeader (bytes_of x.chars) → ⊥) → IsCutOff x left kind → IsCutNext place x left kind
next_of_cut place x left kind some nothing c =
    let w = within_all x.dialect x.at c.n x.chars in
    let longest : IsLongest x.dialect (Whole kind) (take w.k (bytes_of x.chars)) (drop w.k (bytes_of x.chars)) =
    subst (λ z. IsLongest x.dialect (Whole kind) z (drop w.k (bytes_of x.chars))) w.front (subst (λ z. IsLongest x.dialect (Whole kind) (take c.n (bytes_of x.chars)) z) w.rest c.cut) in
    record {
      n = w.k;
      some = w.some c.some some;
      within = w.within;
      left_is = c.left_is ∙ w.same;
      next = inr (λ e b. nothing e (subst BeginsHeader (take-append-drop w.k (bytes_of x.chars)) b), longest);
    }

pub next_of_some : (place : Place) (x : Coming) (o : Option (ItemKind × Coming)) → 0 < length x.chars → (place ≡ AfterInclude → BeginsHeader (bytes_of x.chars) → ⊥) → IfSome o (λ r. IsCutOff x r.1 r.0) → IfSome o (λ r. IsCutNext place x r.1 r.0)
next_of_some place x None some nothing c = c
next_of_some place x (Some r) some nothing c = next_of_cut place x r.1 r.0 some nothing c

-- in a text line, and first in a line, no header name is read
pub next_in_text : (place : Place) (x left : Coming) (kind : ItemKind) → 0 < length x.chars → (place ≡ LineStart) ⊎ (place ≡ InText) → IsCutOff x left kind → IsCutNext place x left kind
next_in_text place x left kind some in_text c = next_of_cut place x left kind some (λ e b. other in_text e) c
  where
    other : (place ≡ LineStart) ⊎ (place ≡ InText) → place ≡ AfterInclude → ⊥
    other (inl start) e = let no : LineStart ≡ AfterInclude = sym start ∙ e in cc
    other (inr text) e = let no : InText ≡ AfterInclude = sym text ∙ e in cc

pub next_header : (x left : Coming) → 0 < length x.chars → begins_header (bytes_of x.chars) ≡ true → left ≡ behind x (header_len (bytes_of x.chars)) → IsCutNext AfterInclude x left HeaderName
next_header x left some h e =
    let w = within_all x.dialect x.at (header_len (bytes_of x.chars)) x.chars in
    record {
      n = w.k;
      some = w.some (long (bytes_of x.chars) h) some;
      within = w.within;
      left_is = e ∙ w.same;
      next = inl (refl, refl, subst IsHeaderName w.front (header_cut (bytes_of x.chars) h));
    }
  where
    long : (s : List ℕ) → begins_header s ≡ true → 0 < header_len s
    long [] h = cc
    long (c ∷ s) h = omega arith

-- behind an `include`
pub header_there : (x : Coming) (o : Option Coming) → 0 < length x.chars → MatchOption o (IsFalse (begins_header (bytes_of x.chars))) (λ rest. IsTrue (begins_header (bytes_of x.chars)) × (rest ≡ behind x (header_len (bytes_of x.chars)))) →
    MatchOption o (AfterInclude ≡ AfterInclude → BeginsHeader (bytes_of x.chars) → ⊥) (λ left. IsCutNext AfterInclude x left HeaderName)
header_there x None some m = λ e. no_header (bytes_of x.chars) m
header_there x (Some left) some m = next_header x left some m.0 m.1

pub next_result : (place : Place) (x : Coming) (o : Result (ItemKind × Coming) Stop) → 0 < length x.chars → (place ≡ AfterInclude → BeginsHeader (bytes_of x.chars) → ⊥) →
    MatchResult o (λ r. IsCutOff x r.1 r.0) (λ stop. IsStop x stop) → MatchResult o (λ r. IsCutNext place x r.1 r.0) (λ stop. IsStop x stop)
next_result place x (Ok r) some nothing c = next_of_cut place x r.1 r.0 some nothing c
next_result place x (Err stop) some nothing c = c
