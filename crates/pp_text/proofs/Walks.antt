-- One step of a walk.
use Rattle.std.proofs.Common.{◌≡◌, ℕ, zero, suc, ◌-◌, ◌<◌, Bool, true, false, List, [], ◌∷◌, map, Option, Some, None, refl, ap, sym, ◌∙◌, arith}
use Rattle.pp_model.specs.Token.{Tok, PpToken}
use Rattle.pp_model.specs.Expand.{expand}
use Rattle.pp_model.specs.Replace.{Reader}
use Rattle.pp_model.specs.Preprocess.{World, Section, Source, Shift, Includer, Lexed, walk, includer, included, include_by, keyed, names_file, key_of, is_include, one_section, moved, tok_of, plain, found, read_source, finish, with_jump, unmoved}
use Rattle.pp_text.specs.Unread.{Rules, Unread, Waiting, Reading, includes_of, resumed, unwound, whole, behind_section, entered, begun_text}

walk_over : (read : Reader) (holds : List PpToken → Bool) (include : Includer) (shift : Shift) (w : World) (xs : List Section) → w.over ≡ true → walk read holds include shift w xs ≡ w
walk_over read holds include shift w [] e = ap (λ b. let r : World = elim b [ true ↦ w | false ↦ finish read w ] in r) e
walk_over read holds include shift w (x ∷ xs) e =
    let v : World = one_section read holds include shift x w in
    ap (λ b. let r : World = elim b [ true ↦ w | false ↦ walk read holds include (moved shift x.next v.jump) v xs ] in r) e

-- once no turn is left, nothing is told any more
unwound_over : (rules : Rules) (ss : List Waiting) (w : World) → w.over ≡ true → (unwound rules ss w).events ≡ w.events
unwound_over rules [] w e = refl
unwound_over rules (s ∷ ss) w e =
    let u : World = resumed s.conds w in
    ap (λ v. (unwound rules ss v).events) (walk_over rules.kinds rules.holds (includes_of rules s.text.depth) s.text.shift u s.text.sections e)
    ∙ unwound_over rules ss u e

pub whole_over : (rules : Rules) (r : Reading) → r.world.over ≡ true → (whole rules r).events ≡ r.world.events
whole_over rules r e =
    ap (λ v. (unwound rules r.waiting v).events) (walk_over rules.kinds rules.holds (includes_of rules r.text.depth) r.text.shift r.world r.text.sections e)
    ∙ unwound_over rules r.waiting r.world e

walk_section : (read : Reader) (holds : List PpToken → Bool) (include : Includer) (shift : Shift) (w : World) (x : Section) (xs : List Section) → w.over ≡ false →
    walk read holds include shift w (x ∷ xs) ≡ walk read holds include (moved shift x.next (one_section read holds include shift x w).jump) (one_section read holds include shift x w) xs
walk_section read holds include shift w x xs e =
    let v : World = one_section read holds include shift x w in
    ap (λ b. let r : World = elim b [ true ↦ w | false ↦ walk read holds include (moved shift x.next v.jump) v xs ] in r) e

walk_end : (read : Reader) (holds : List PpToken → Bool) (include : Includer) (shift : Shift) (w : World) → w.over ≡ false → walk read holds include shift w [] ≡ finish read w
walk_end read holds include shift w e = ap (λ b. let r : World = elim b [ true ↦ w | false ↦ finish read w ] in r) e

-- a section of a text
pub whole_section : (rules : Rules) (t : Unread) (x : Section) (ss : List Waiting) (w : World) → w.over ≡ false →
    whole rules (record { world = w; text = record { sections = x ∷ t.sections; shift = t.shift; depth = t.depth }; waiting = ss })
    ≡ behind_section rules t x.next ss (one_section rules.kinds rules.holds (includes_of rules t.depth) t.shift x w)
whole_section rules t x ss w e = ap (unwound rules ss) (walk_section rules.kinds rules.holds (includes_of rules t.depth) t.shift w x t.sections e)

-- the end of a text
pub whole_end : (rules : Rules) (t : Unread) (ss : List Waiting) (w : World) → w.over ≡ false →
    whole rules (record { world = w; text = record { sections = []; shift = t.shift; depth = t.depth }; waiting = ss }) ≡ unwound rules ss (finish rules.kinds w)
whole_end rules t ss w e = ap (unwound rules ss) (walk_end rules.kinds rules.holds (includes_of rules t.depth) t.shift w e)

-- an include directive
pub include_section : (read : Reader) (holds : List PpToken → Bool) (include : Includer) (shift : Shift) (x : Section) (w : World) → is_include x.kind ≡ true →
    one_section read holds include shift x w ≡ included read include (map (tok_of shift) x.items) (with_jump None w)
include_section read holds include shift x w e =
    ap (λ b. let r : World = elim b [ true ↦ included read include (map (tok_of shift) x.items) (with_jump None w) | false ↦ plain read holds x.kind x.function_like (map (tok_of shift) x.items) (with_jump None w) ] in r) e

-- any other section
pub plain_section : (read : Reader) (holds : List PpToken → Bool) (include : Includer) (shift : Shift) (x : Section) (w : World) → is_include x.kind ≡ false →
    one_section read holds include shift x w ≡ plain read holds x.kind x.function_like (map (tok_of shift) x.items) (with_jump None w)
plain_section read holds include shift x w e =
    ap (λ b. let r : World = elim b [ true ↦ included read include (map (tok_of shift) x.items) (with_jump None w) | false ↦ plain read holds x.kind x.function_like (map (tok_of shift) x.items) (with_jump None w) ] in r) e

-- an include that names a file
pub names_file_is : (read : Reader) (include : Includer) (ts : List Tok) (w : World) → names_file ts ≡ true → include_by read include ts w ≡ include w (key_of ts)
names_file_is read include ts w e = ap (λ b. let r : World = elim b [ true ↦ include w (key_of ts) | false ↦ keyed include w (expand read w.table w.turns ts) ] in r) e

-- an include of another operand
pub names_no_file : (read : Reader) (include : Includer) (ts : List Tok) (w : World) → names_file ts ≡ false → include_by read include ts w ≡ keyed include w (expand read w.table w.turns ts)
names_no_file read include ts w e = ap (λ b. let r : World = elim b [ true ↦ include w (key_of ts) | false ↦ keyed include w (expand read w.table w.turns ts) ] in r) e

-- an include where depth is left
pub deeper : (read : Reader) (holds : List PpToken → Bool) (files : List PpToken → Option Source) (d : ℕ) (w : World) (key : List PpToken) → 0 < d →
    includer read holds files d w key ≡ found (λ v src. read_source read holds (includer read holds files (d - 1)) v src) w (files key)
deeper read holds files zero w key h = absurd (omega arith)
deeper read holds files (suc d) w key h =
    let back : d ≡ suc d - 1 = omega arith in
    ap (λ n. found (λ v src. read_source read holds (includer read holds files n) v src) w (files key)) back

-- an included text that begins
pub whole_begun : (rules : Rules) (t : Unread) (next : ℕ) (ss : List Waiting) (w v : World) (xs : List Section) → v ≡ entered rules t.depth (Some xs) w →
    whole rules (begun_text xs (record { world = w; text = t; waiting = ss })) ≡ behind_section rules t next ss v
whole_begun rules t next ss w v xs e = ap (λ u. behind_section rules t next ss u) (sym e)

start_of : (rules : Rules) (depth : ℕ) (w : World) (xs : List Section) (src : Source) → Lexed xs ≡ src →
    (walk rules.kinds rules.holds (includes_of rules depth) unmoved w xs).events ≡ (read_source rules.kinds rules.holds (includes_of rules depth) w src).events
start_of rules depth w xs src e = ap (λ s. (read_source rules.kinds rules.holds (includes_of rules depth) w s).events) e

-- a text from its start
pub whole_source : (rules : Rules) (depth : ℕ) (v w : World) (ss : List Waiting) (xs : List Section) (src : Source) → ss ≡ [] → v ≡ w → Lexed xs ≡ src →
    (whole rules (record { world = v; text = record { sections = xs; shift = unmoved; depth = depth }; waiting = ss })).events ≡ (read_source rules.kinds rules.holds (includes_of rules depth) w src).events
whole_source rules depth v w ss xs src none same e =
    let t : Unread = record { sections = xs; shift = unmoved; depth = depth } in
    ap (λ us. (whole rules (record { world = v; text = t; waiting = us })).events) none
    ∙ (ap (λ u. (whole rules (record { world = u; text = t; waiting = [] })).events) same ∙ start_of rules depth w xs src e)
