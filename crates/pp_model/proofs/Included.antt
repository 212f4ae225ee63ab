-- Sections that are the same but for white space and lines have the same events, at any depth of includes.
use Rattle.std.proofs.Common.{◌≡◌, ℕ, zero, suc, Bool, true, false, List, [], ◌∷◌, map, Option, Some, None, option_map, refl, sym, ap, ◌∙◌}
use Rattle.pp_model.specs.Token.{PpToken, Plain, Tok}
use Rattle.pp_model.specs.Macro.{Table}
use Rattle.pp_model.specs.Replace.{Reader}
use Rattle.pp_model.specs.Expand.{Expanded, Done, Spent, expand}
use Rattle.pp_model.specs.Condition.{is_active}
use Rattle.pp_model.specs.Preprocess.{Item, Section, Source, Lexed, NotLexed, IncludeNotFound, Unlexed, erase_event, World, with_turns, with_jump, emit, spend, key_of, flush, plain, Includer, names_file, keyed, include_by, included, is_include, Shift, moved, unmoved, tok_of, one_section, finish, walk, read_source, inside, outside, found, includer, starting, preprocess}
use Rattle.pp_model.proofs.Blank.{expand-blank}
use Rattle.pp_model.proofs.Sections.{key_of-blank, emit-blank, spend-blank, flush-blank, plain-blank, finish-blank}
use Rattle.pp_model.proofs.Blanks.{blank, blank_macro, blank_expanded, blank_item, blank_section, blank_source, blank_world}

-- two states that are equal but for white space and lines
abbrev pub Same : World → World → Type 0
Same w w' = blank_world w ≡ blank_world w'

pub cond-same : {A B : Type 0} (f : A → B) (b b' : Bool) {x x' y y' : A} → b ≡ b' → f x ≡ f x' → f y ≡ f y' → f (elim b [ true ↦ x | false ↦ y ]) ≡ f (elim b' [ true ↦ x' | false ↦ y' ])
cond-same f true true e p q = p
cond-same f false false e p q = q
cond-same f true false e p q = cc
cond-same f false true e p q = cc

flush-same : (read : Reader) (w w' : World) → Same w w' → Same (flush read w) (flush read w')
flush-same read w w' e = flush-blank read w ∙ ap (flush read) e ∙ sym (flush-blank read w')

expand-same : (read : Reader) (w w' : World) (ts ts' : List Tok) → Same w w' → map blank ts ≡ map blank ts' → blank_expanded (expand read w.table w.turns ts) ≡ blank_expanded (expand read w'.table w'.turns ts')
expand-same read w w' ts ts' e t =
    expand-blank read w.table w.turns ts
    ∙ ap (λ v. expand read v.table v.turns (map blank ts)) e
    ∙ ap (expand read (map blank_macro w'.table) w'.turns) t
    ∙ sym (expand-blank read w'.table w'.turns ts')

names_file-blank : (ts : List Tok) → names_file (map blank ts) ≡ names_file ts
names_file-blank [] = refl
names_file-blank (t ∷ []) = refl
names_file-blank (t ∷ u ∷ us) = refl

key_of-same : (ts ts' : List Tok) → map blank ts ≡ map blank ts' → key_of ts ≡ key_of ts'
key_of-same ts ts' t = sym (key_of-blank ts) ∙ ap key_of t ∙ key_of-blank ts'

-- includes of the same key keep states the same
abbrev pub Alike : Includer → Includer → Type 0
Alike include include' = (w w' : World) → Same w w' → (k : List PpToken) → Same (include w k) (include' w' k)

module _ (read : Reader) (holds : List PpToken → Bool) (include include' : Includer) (alike : Alike include include') where
  keyed-same : (w w' : World) (x x' : Expanded) → Same w w' → blank_expanded x ≡ blank_expanded x' → Same (keyed include w x) (keyed include' w' x')
  keyed-same w w' (Done ts n) (Done ts' n') e d =
      let n-same : n ≡ n' = cc in
      let ts-same : map blank ts ≡ map blank ts' = cc in
      alike (with_turns n w) (with_turns n' w') (ap (with_turns n) e ∙ ap (λ m. with_turns m (blank_world w')) n-same) (key_of ts)
      ∙ ap (λ k. blank_world (include' (with_turns n' w') k)) (key_of-same ts ts' ts-same)
  keyed-same w w' Spent Spent e d = spend-blank w ∙ ap spend e ∙ sym (spend-blank w')
  keyed-same w w' (Done ts n) Spent e d = cc
  keyed-same w w' Spent (Done ts n) e d = cc

  include_by-same : (w w' : World) (ts ts' : List Tok) → Same w w' → map blank ts ≡ map blank ts' → Same (include_by read include ts w) (include_by read include' ts' w')
  include_by-same w w' ts ts' e t =
      cond-same blank_world (names_file ts) (names_file ts') (sym (names_file-blank ts) ∙ ap names_file t ∙ names_file-blank ts')
      (alike w w' e (key_of ts) ∙ ap (λ k. blank_world (include' w' k)) (key_of-same ts ts' t))
      (keyed-same w w' (expand read w.table w.turns ts) (expand read w'.table w'.turns ts') e (expand-same read w w' ts ts' e t))

  included-same : (w w' : World) (ts ts' : List Tok) → Same w w' → map blank ts ≡ map blank ts' → Same (included read include ts w) (included read include' ts' w')
  included-same w w' ts ts' e t =
      let f = flush-same read w w' e in
      cond-same blank_world (is_active w.conds) (is_active w'.conds) (ap (λ v. is_active v.conds) e)
      (cond-same blank_world (flush read w).over (flush read w').over (ap (λ v. v.over) f) f
      (include_by-same (flush read w) (flush read w') ts ts' f t))
      e

  -- what a section's items are as tokens, but for white space and lines
  abbrev pub bare : Item → Tok
  bare i = record { token = Plain i.text; kind = i.kind; hide = []; white = false; line = 0 }

  toks-bare : (shift : Shift) (is : List Item) → map blank (map (tok_of shift) is) ≡ map bare (map blank_item is)
  toks-bare shift [] = refl
  toks-bare shift (i ∷ is) = ap (λ ts. bare i ∷ ts) (toks-bare shift is)

  one_section-same : (shift shift' : Shift) (x x' : Section) (w w' : World) → blank_section x ≡ blank_section x' → Same w w' → Same (one_section read holds include shift x w) (one_section read holds include' shift' x' w')
  one_section-same shift shift' x x' w w' s e =
      let ts = map (tok_of shift) x.items in
      let ts' = map (tok_of shift') x'.items in
      let t : map blank ts ≡ map blank ts' = toks-bare shift x.items ∙ ap (λ y. map bare y.items) s ∙ sym (toks-bare shift' x'.items) in
      let v : Same (with_jump None w) (with_jump None w') = ap (with_jump None) e in
      cond-same blank_world (is_include x.kind) (is_include x'.kind) (ap (λ y. is_include y.kind) s)
      (included-same (with_jump None w) (with_jump None w') ts ts' v t)
      (plain-blank read holds x.kind x.function_like ts (with_jump None w)
      ∙ ap (λ y. plain read holds y.kind y.function_like (map blank ts) (blank_world (with_jump None w))) s
      ∙ ap (λ us. plain read holds x'.kind x'.function_like us (blank_world (with_jump None w))) t
      ∙ ap (plain read holds x'.kind x'.function_like (map blank ts')) v
      ∙ sym (plain-blank read holds x'.kind x'.function_like ts' (with_jump None w')))

  walk-same : (xs xs' : List Section) (shift shift' : Shift) (w w' : World) → map blank_section xs ≡ map blank_section xs' → Same w w' → Same (walk read holds include shift w xs) (walk read holds include' shift' w' xs')
  walk-same [] [] shift shift' w w' s e =
      cond-same blank_world w.over w'.over (ap (λ v. v.over) e) e
      (finish-blank read w ∙ ap (finish read) e ∙ sym (finish-blank read w'))
  walk-same (x ∷ xs) (x' ∷ xs') shift shift' w w' s e =
      let head : blank_section x ≡ blank_section x' = cc in
      let tail : map blank_section xs ≡ map blank_section xs' = cc in
      let v = one_section read holds include shift x w in
      let v' = one_section read holds include' shift' x' w' in
      cond-same blank_world w.over w'.over (ap (λ u. u.over) e) e
      (walk-same xs xs' (moved shift x.next v.jump) (moved shift' x'.next v'.jump) v v' tail (one_section-same shift shift' x x' w w' head e))
  walk-same [] (x' ∷ xs') shift shift' w w' s e = cc
  walk-same (x ∷ xs) [] shift shift' w w' s e = cc

  pub read_source-same : (w w' : World) (src src' : Source) → blank_source src ≡ blank_source src' → Same w w' → Same (read_source read holds include w src) (read_source read holds include' w' src')
  read_source-same w w' (Lexed xs) (Lexed xs') s e =
      let h : map blank_section xs ≡ map blank_section xs' = cc in walk-same xs xs' unmoved unmoved w w' h e
  read_source-same w w' NotLexed NotLexed s e =
      emit-blank (Unlexed ∷ []) (Unlexed ∷ []) w refl ∙ ap (emit (Unlexed ∷ [])) e ∙ sym (emit-blank (Unlexed ∷ []) (Unlexed ∷ []) w' refl)
  read_source-same w w' (Lexed xs) NotLexed s e = cc
  read_source-same w w' NotLexed (Lexed xs) s e = cc

not_found-same : (w w' : World) → Same w w' → Same (emit (IncludeNotFound ∷ []) w) (emit (IncludeNotFound ∷ []) w')
not_found-same w w' e =
    emit-blank (IncludeNotFound ∷ []) (IncludeNotFound ∷ []) w refl ∙ ap (emit (IncludeNotFound ∷ [])) e ∙ sym (emit-blank (IncludeNotFound ∷ []) (IncludeNotFound ∷ []) w' refl)

-- the files of both settings are twins
abbrev pub FilesSame : (List PpToken → Option Source) → (List PpToken → Option Source) → Type 0
FilesSame files files' = (k : List PpToken) → option_map blank_source (files k) ≡ option_map blank_source (files' k)

found-same : (go go' : World → Source → World) → ((w w' : World) (src src' : Source) → blank_source src ≡ blank_source src' → Same w w' → Same (go w src) (go' w' src')) → (w w' : World) (o o' : Option Source) → option_map blank_source o ≡ option_map blank_source o' → Same w w' → Same (found go w o) (found go' w' o')
found-same go go' h w w' None None s e = not_found-same w w' e
found-same go go' h w w' (Some src) (Some src') s e =
    let k : blank_source src ≡ blank_source src' = cc in
    ap (outside (blank_world w)) (h (inside w) (inside w') src src' k (ap inside e))
    ∙ ap (λ v. outside v (blank_world (go' (inside w') src'))) e
found-same go go' h w w' None (Some src) s e = cc
found-same go go' h w w' (Some src) None s e = cc

includer-same : (read : Reader) (holds : List PpToken → Bool) (files files' : List PpToken → Option Source) → FilesSame files files' → (d : ℕ) → Alike (includer read holds files d) (includer read holds files' d)
includer-same read holds files files' h zero w w' e k = not_found-same w w' e
includer-same read holds files files' h (suc d) w w' e k =
    found-same (λ v src. read_source read holds (includer read holds files d) v src) (λ v src. read_source read holds (includer read holds files' d) v src)
    (read_source-same read holds (includer read holds files d) (includer read holds files' d) (includer-same read holds files files' h d))
    w w' (files k) (files' k) (h k) e

pub twins : (read : Reader) (holds : List PpToken → Bool) (files files' : List PpToken → Option Source) (depth : ℕ) (table : Table) (turns : ℕ) (src src' : Source) → FilesSame files files' → blank_source src ≡ blank_source src' → map erase_event (preprocess read holds files depth table turns src) ≡ map erase_event (preprocess read holds files' depth table turns src')
twins read holds files files' depth table turns src src' h s =
    ap (λ w. w.events)
    (read_source-same read holds (includer read holds files depth) (includer read holds files' depth) (includer-same read holds files files' h depth)
    (starting table turns) (starting table turns) src src' s refl)
