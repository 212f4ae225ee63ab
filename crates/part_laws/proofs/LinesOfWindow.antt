-- Lines of lists that end among some tokens, and the level at their end: the same wherever these tokens stand.
use Rattle.std.proofs.Common.{◌≡◌, ◌∙◌, ℕ, zero, suc, ◌+◌, ◌≤◌, nat_lt, Bool, true, false, ◌&&◌, List, [], ◌∷◌, ◌++◌, length, map, refl, sym, ap, arith}
use Rattle.std.proofs.lemmas.Bool.{ltb-true}
use Rattle.std.proofs.lemmas.List.{map-append}
use Rattle.token_classes.specs.Classes.{is_else}
use Rattle.token_classes.specs.declared.class.TokenClass.{TokenClass}
use Rattle.statement_lines.specs.declared.token.CodeToken.{CodeToken}
use Rattle.statement_lines.specs.declared.line.Line.{Line}
use Rattle.statement_lines.specs.declared.braces.Braces.{Braces}
use Rattle.statement_lines.specs.declared.open.Open.{Open}
use Rattle.statement_lines.specs.declared.open.Start.{Start}
use Rattle.statement_lines.specs.declared.open.Start.TheVariants.{Fresh, Tail, Closing}
use Rattle.statement_lines.specs.declared.form.Next.{Next}
use Rattle.statement_lines.specs.declared.form.Next.TheVariants.{Ends, Goes, Waits, Opens}
use Rattle.statement_lines.specs.declared.form.Form.{Form}
use Rattle.statement_lines.specs.Forms.{seen, is_if_head, is_do_head, tail_end, form_of}
use Rattle.statement_lines.specs.Tree.{Reading, answers_else, answers_tail, settled, body_of, comment_level, head_lines, line_of, lines_from, level_of_list, end_level_from}
use Rattle.part_laws.proofs.CodeCut.{token_behind, open_behind, start_behind, code_line_behind, IsCutBehind, IsCutBefore}
use Rattle.part_laws.proofs.Choices.{choose, chosen}
use Rattle.part_laws.proofs.FormsOfWindow.{next_behind, form_behind, tail_there, form_there}
use Rattle.part_laws.proofs.FormsReach.{Reaches, form_reaches}
use Rattle.part_laws.proofs.Turns.{lines_after, level_after}
use Rattle.part_laws.proofs.Window.{IsWindow, is_window, lt_there, seen_there}

-- ## Lists that end up to a place

-- each of these lists does
abbrev pub AllWithin : ℕ → List Open → Type 0
AllWithin most [] = Unit {0}
AllWithin most (o ∷ os) = (o.end ≤ most) × AllWithin most os

-- a block that is opened does
abbrev EndsWithin : ℕ → Next → Type 0
EndsWithin most (Opens wrapped block) = block.end ≤ most
EndsWithin most next = Unit {0}

-- ## Settling

abbrev reading_behind : ℕ → Reading → Reading
reading_behind n r = record { opens = map (open_behind n) r.opens; start = start_behind n r.start }

settled_there : {n : ℕ} {whole tokens : List CodeToken} → IsWindow n whole tokens → (at : ℕ) (opens : List Open) → AllWithin (length tokens) opens
    → settled whole (n + at) (map (open_behind n) opens) ≡ reading_behind n (settled tokens at opens)
settled_there w at [] all = refl
settled_there {n} {whole} {tokens} w at (o ∷ os) all =
    let next : seen whole (n + o.end) (n + at) ≡ seen tokens o.end at = seen_there w o.end at all.0 in
    let tail : tail_end whole (n + o.end) (n + at) ≡ n + tail_end tokens o.end at = tail_there w o.end at all.0 in
    choose (reading_behind n) o.block o.block _ _ _ _ refl (λ _. refl)
    (λ _. choose (reading_behind n) (answers_else whole (open_behind n o) (n + at)) (answers_else tokens o at) _ _ _ _
    (ap (λ (c : TokenClass). is_if_head o.head && is_else c) next) (λ _. refl)
    (λ _. choose (reading_behind n) (answers_tail whole (open_behind n o) (n + at)) (answers_tail tokens o at) _ _ _ _
    (ap (λ (j : ℕ). is_do_head o.head && nat_lt (n + at) j) tail ∙ ap (λ (b : Bool). is_do_head o.head && b) (lt_there n at (tail_end tokens o.end at)))
    (λ _. refl)
    (λ _. settled_there w at os all.1)))

settled_within : (tokens : List CodeToken) (at most : ℕ) (opens : List Open) → AllWithin most opens → AllWithin most (settled tokens at opens).opens
settled_within tokens at most [] all = tt
settled_within tokens at most (o ∷ os) all =
    keep o.block _ _ all (keep (answers_else tokens o at) _ _ all.1 (keep (answers_tail tokens o at) _ _ all.1 (settled_within tokens at most os all.1)))
  where
    keep : (b : Bool) (x y : Reading) → AllWithin most x.opens → AllWithin most y.opens
        → AllWithin most (elim b as (λ _. Reading) [ true ↦ x | false ↦ y ]).opens
    keep true x y one other = one
    keep false x y one other = other

-- ## One line

comment_there : (n : ℕ) (o : Open) (start : Start) (f : Form)
    → comment_level (open_behind n o) (start_behind n start) (form_behind n f) ≡ comment_level o start f
comment_there n o Fresh f = refl
comment_there n o Tail f = refl
comment_there n o (Closing b) f = refl

line_there : (n : ℕ) (o : Open) (start : Start) (at : ℕ) (f : Form)
    → line_of (open_behind n o) (start_behind n start) (n + at) (form_behind n f) ≡ code_line_behind n (line_of o start at f)
line_there n o start at f = ap (λ (level : ℕ). record { first = n + at; end = n + f.end; level = f.level; kind = f.kind; list_level = level })
    (comment_there n o start f)

head_there : (n : ℕ) (o : Open) (start : Start) (at : ℕ) (f : Form) (wrapped : Bool)
    → head_lines (open_behind n o) (start_behind n start) (n + at) (form_behind n f) wrapped ≡ map (code_line_behind n) (head_lines o start at f wrapped)
head_there n o start at f true =
    let one : n + f.end + 1 ≡ n + (f.end + 1) = omega arith in
    rw (comment_there n o start f, one) refl
head_there n o start at f false =
    let one : n + f.end + 1 ≡ n + (f.end + 1) = omega arith in
    rw (comment_there n o start f, one) refl

-- ## Lines

-- so many lines are the same, behind so many tokens
abbrev AreLinesThere : ℕ → List CodeToken → List CodeToken → ℕ → Braces → Type 0
AreLinesThere n whole tokens count braces = (opens : List Open) (start : Start) (at : ℕ) → AllWithin (length tokens) opens
    → lines_from count braces whole (map (open_behind n) opens) (start_behind n start) (n + at) ≡ map (code_line_behind n)
    (lines_from count braces tokens opens start at)

lines_step : (n : ℕ) (whole tokens : List CodeToken) → IsWindow n whole tokens → (count : ℕ) (braces : Braces) → AreLinesThere n whole tokens count braces
    → (o : Open) (os : List Open) (start : Start) (at : ℕ) (f : Form) (next : Next) → AllWithin (length tokens) (o ∷ os) → EndsWithin (length tokens) next
    → lines_after count braces whole (open_behind n o) (map (open_behind n) os) (start_behind n start) (n + at) (form_behind n f) (next_behind n next)
    ≡ map (code_line_behind n) (lines_after count braces tokens o os start at f next)
lines_step n whole tokens w count braces stay o os start at f Ends all within =
    let line : Line = code_line_behind n (line_of o start at f) in
    let r : Reading = settled tokens f.end (o ∷ os) in
    ap (λ (l : Line). l ∷ lines_from count braces whole (settled whole (n + f.end) (map (open_behind n) (o ∷ os))).opens
    (settled whole (n + f.end) (map (open_behind n) (o ∷ os))).start (n + f.end)) (line_there n o start at f)
    ∙ (ap (λ (r : Reading). line ∷ lines_from count braces whole r.opens r.start (n + f.end)) (settled_there w f.end (o ∷ os) all)
    ∙ ap (λ (ls : List Line). line ∷ ls) (stay r.opens r.start f.end (settled_within tokens f.end (length tokens) (o ∷ os) all)))
lines_step n whole tokens w count braces stay o os start at f (Goes s) all within =
    ap (λ (l : Line). l ∷ lines_from count braces whole (map (open_behind n) (o ∷ os)) (start_behind n s) (n + f.end)) (line_there n o start at f)
    ∙ ap (λ (ls : List Line). code_line_behind n (line_of o start at f) ∷ ls) (stay (o ∷ os) s f.end all)
lines_step n whole tokens w count braces stay o os start at f (Waits h) all within =
    ap (λ (l : Line). l ∷ lines_from count braces whole (map (open_behind n) (body_of o h f.level ∷ o ∷ os)) Fresh (n + f.end)) (line_there n o start at f)
    ∙ ap (λ (ls : List Line). code_line_behind n (line_of o start at f) ∷ ls) (stay (body_of o h f.level ∷ o ∷ os) Fresh f.end (all.0, all))
lines_step n whole tokens w count braces stay o os start at f (Opens wrapped b) all within =
    let one : n + f.end + 1 ≡ n + (f.end + 1) = omega arith in
    let move : List Line → List Line = map (code_line_behind n) in
    let heads : List Line = head_lines o start at f wrapped in
    let inner : List Line = lines_from count braces tokens (b ∷ []) Fresh (f.end + 1) in
    let rest : List Line = lines_from count braces tokens (o ∷ os) (Closing b) b.end in
    let inner_there : List Line = lines_from count braces whole (open_behind n b ∷ []) Fresh (n + f.end + 1) in
    let rest_there : List Line = lines_from count braces whole (map (open_behind n) (o ∷ os)) (Closing (open_behind n b)) (n + b.end) in
    ap (λ (ls : List Line). (ls ++ inner_there) ++ rest_there) (head_there n o start at f wrapped)
    ∙ (ap (λ (ls : List Line). (move heads ++ ls) ++ rest_there)
    (ap (λ (k : ℕ). lines_from count braces whole (open_behind n b ∷ []) Fresh k) one ∙ stay (b ∷ []) Fresh (f.end + 1) (within, tt))
    ∙ (ap (λ (ls : List Line). (move heads ++ move inner) ++ ls) (stay (o ∷ os) (Closing b) b.end all)
    ∙ sym (map-append (code_line_behind n) (heads ++ inner) rest ∙ ap (λ (ls : List Line). ls ++ move rest) (map-append (code_line_behind n) heads inner))))

block_within : (most at end : ℕ) (form : Form) (next : Next) → end ≤ most → Reaches at end form next → EndsWithin most next
block_within most at end form Ends low reaches = tt
block_within most at end form (Goes start) low reaches = tt
block_within most at end form (Waits head) low reaches = tt
block_within most at end form (Opens wrapped block) low reaches = omega (arith, low, reaches.ends)

lines_there : (n : ℕ) (whole tokens : List CodeToken) → IsWindow n whole tokens → (count : ℕ) (braces : Braces) → AreLinesThere n whole tokens count braces
lines_there n whole tokens w zero braces opens start at all = refl
lines_there n whole tokens w (suc count) braces [] start at all = refl
lines_there n whole tokens w (suc count) braces (o ∷ os) start at all =
    let f : Form = form_of braces tokens o start at in
    choose (map (code_line_behind n)) (nat_lt (n + at) (n + o.end)) (nat_lt at o.end) (lines_after count braces tokens o os start at f f.next) []
    (lines_after count braces whole (open_behind n o) (map (open_behind n) os) (start_behind n start) (n + at)
    (form_of braces whole (open_behind n o) (start_behind n start) (n + at)) (form_of braces whole (open_behind n o) (start_behind n start) (n + at)).next) []
    (lt_there n at o.end)
    (λ less. ap (λ (g : Form). lines_after count braces whole (open_behind n o) (map (open_behind n) os) (start_behind n start) (n + at) g g.next)
    (form_there w braces o start at all.0 (ltb-true at o.end less))
    ∙ lines_step n whole tokens w count braces (λ opens start at all. lines_there n whole tokens w count braces opens start at all) o os start at f f.next all
    (block_within (length tokens) at o.end f f.next all.0 (form_reaches braces tokens o start at (ltb-true at o.end less))))
    (λ _. refl)

-- ## The level at the end

level_there : (n : ℕ) (opens : List Open) → level_of_list (map (open_behind n) opens) ≡ level_of_list opens
level_there n [] = refl
level_there n (o ∷ os) = ap (λ (x : ℕ). elim o.block as (λ _. ℕ) [ true ↦ o.level | false ↦ x ]) (level_there n os)

abbrev IsLevelThere : ℕ → List CodeToken → List CodeToken → ℕ → Braces → Type 0
IsLevelThere n whole tokens count braces = (opens : List Open) (start : Start) (at : ℕ) → AllWithin (length tokens) opens
    → end_level_from count braces whole (map (open_behind n) opens) (start_behind n start) (n + at) ≡ end_level_from count braces tokens opens start at

level_step : (n : ℕ) (whole tokens : List CodeToken) → IsWindow n whole tokens → (count : ℕ) (braces : Braces) → IsLevelThere n whole tokens count braces
    → (o : Open) (os : List Open) (f : Form) (next : Next) → AllWithin (length tokens) (o ∷ os) → EndsWithin (length tokens) next
    → level_after count braces whole (open_behind n o) (map (open_behind n) os) (form_behind n f) (next_behind n next)
    ≡ level_after count braces tokens o os f next
level_step n whole tokens w count braces stay o os f Ends all within =
    let r : Reading = settled tokens f.end (o ∷ os) in
    ap (λ (r : Reading). end_level_from count braces whole r.opens r.start (n + f.end)) (settled_there w f.end (o ∷ os) all)
    ∙ stay r.opens r.start f.end (settled_within tokens f.end (length tokens) (o ∷ os) all)
level_step n whole tokens w count braces stay o os f (Goes s) all within = stay (o ∷ os) s f.end all
level_step n whole tokens w count braces stay o os f (Waits h) all within = stay (body_of o h f.level ∷ o ∷ os) Fresh f.end (all.0, all)
level_step n whole tokens w count braces stay o os f (Opens wrapped b) all within =
    let one : n + f.end + 1 ≡ n + (f.end + 1) = omega arith in
    chosen (nat_lt (n + b.end) (n + o.end)) (nat_lt b.end o.end) _ _ _ _ (lt_there n b.end o.end)
    (λ _. stay (o ∷ os) (Closing b) b.end all)
    (λ _. ap (λ (k : ℕ). end_level_from count braces whole (open_behind n b ∷ []) Fresh k) one ∙ stay (b ∷ []) Fresh (f.end + 1) (within, tt))

end_there : (n : ℕ) (whole tokens : List CodeToken) → IsWindow n whole tokens → (count : ℕ) (braces : Braces) → IsLevelThere n whole tokens count braces
end_there n whole tokens w zero braces opens start at all = refl
end_there n whole tokens w (suc count) braces [] start at all = refl
end_there n whole tokens w (suc count) braces (o ∷ os) start at all =
    let f : Form = form_of braces tokens o start at in
    chosen (nat_lt (n + at) (n + o.end)) (nat_lt at o.end) (level_after count braces tokens o os f f.next) (level_of_list (o ∷ os))
    (level_after count braces whole (open_behind n o) (map (open_behind n) os) (form_of braces whole (open_behind n o) (start_behind n start) (n + at))
    (form_of braces whole (open_behind n o) (start_behind n start) (n + at)).next) (level_of_list (map (open_behind n) (o ∷ os))) (lt_there n at o.end)
    (λ less. ap (λ (g : Form). level_after count braces whole (open_behind n o) (map (open_behind n) os) g g.next)
    (form_there w braces o start at all.0 (ltb-true at o.end less))
    ∙ level_step n whole tokens w count braces (λ opens start at all. end_there n whole tokens w count braces opens start at all) o os f f.next all
    (block_within (length tokens) at o.end f f.next all.0 (form_reaches braces tokens o start at (ltb-true at o.end less))))
    (λ _. level_there n (o ∷ os))

-- ## Both

-- Lines of lists that end among some tokens are the same wherever these tokens stand.
pub record InWindow (n : ℕ) (braces : Braces) (earlier tokens later : List CodeToken) (opens : List Open) (start : Start) (at : ℕ) : Type 0 where
  pub lines : lines_from n braces (earlier ++ (map (token_behind (length earlier)) tokens ++ later)) (map (open_behind (length earlier)) opens)
      (start_behind (length earlier) start) (length earlier + at)
      ≡ map (code_line_behind (length earlier)) (lines_from n braces tokens opens start at)
  pub level : end_level_from n braces (earlier ++ (map (token_behind (length earlier)) tokens ++ later)) (map (open_behind (length earlier)) opens)
      (start_behind (length earlier) start) (length earlier + at)
      ≡ end_level_from n braces tokens opens start at

pub in_window : (n : ℕ) (braces : Braces) (earlier tokens later : List CodeToken) (opens : List Open) (start : Start) (at : ℕ)
    → IsCutBehind earlier → IsCutBefore later → AllWithin (length tokens) opens → InWindow n braces earlier tokens later opens start at
in_window n braces earlier tokens later opens start at behind before within =
    let window = is_window earlier tokens later behind before in
    let whole : List CodeToken = earlier ++ (map (token_behind (length earlier)) tokens ++ later) in
    record {
      lines = lines_there (length earlier) whole tokens window n braces opens start at within;
      level = end_there (length earlier) whole tokens window n braces opens start at within;
    }
