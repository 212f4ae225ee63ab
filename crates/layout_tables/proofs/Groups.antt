-- What the groups of rows say is what the table says.
use Rattle.std.proofs.Common.{◌≡◌, ◌≤◌, ◌∷◌, [], ℕ, zero, suc, Bool, true, false, ◌||◌, ◌&&◌, ◌==◌, not, refl, sym, ap, arith, slice_index_or, bit_or}
use Rattle.std.specs.Prelude.{if◌then◌else◌, min}
use Rattle.std.proofs.lemmas.Bool.{or_parts, and_right}
use Rattle.line_tokens.specs.declared.LineTok.{LineTok}
use Rattle.style_table.specs.declared.style.Style.{Style}
use Rattle.line_tokens.specs.Roles.{is_trailing, is_ctrl_open, is_list_open, is_list_close, is_block_open, is_block_close, is_cast_close, is_pointer, is_asm_colon, is_member, is_bracket_open, is_bracket_close, is_comma_or_semi, is_inner_or_stray, is_call_or_decl_open, is_unary_or_prefix, is_member_or_desig_dot}
use Rattle.layout_tables.specs.Spaces.{as_before, is_attached, is_never, is_always, is_right, one_if, spaces_by_table}
use Rattle.layout_tables.specs.Told.{TellBlanks, asks_more, group_behind}

-- what groups with these blanks say, where five of them aren't the same in each style
abbrev pub pick : ℕ → ℕ → ℕ → ℕ → ℕ → ℕ → ℕ
pick a b c d e g = slice_index_or (2 ∷ 0 ∷ a ∷ 2 ∷ b ∷ c ∷ 0 ∷ d ∷ e ∷ 1 ∷ []) g 0

-- what stands behind the roles that ask for more
abbrev rest : Bool → Bool → Bool → Bool → Bool → Bool → ℕ
rest cs bc ct ca at mr = if cs || bc then 1 else if ct then 4 else if ca then 5 else if at || mr then 6 else 9

-- the first group of two roles says what the first row does, by what the two roles are
core : (cs bo bc lo inn ct ca at un ml mr cl pl : Bool) (va vb vc vd ve vx a b c d e : ℕ)
    → (a ≤ 1 → a ≡ va) → (b ≤ 1 → b ≡ vb) → (c ≤ 1 → c ≡ vc) → (d ≤ 1 → d ≡ vd) → (e ≤ 1 → e ≡ ve)
    → pick a b c d e (min (if bo then 1 else if lo then 2 else if inn then 3 else if un || ml then 6 else if cl then 7 else if pl then 8 else 9) (rest cs bc ct ca at mr)) ≤ 1
    → (if cs then 0 else if bo || bc then 0 else if lo || false then va else if inn || false then vx else if ct then vb else if ca then vc else if at then 0 else if un then 0 else if ml || mr then 0 else if cl then vd else if pl then ve else 1)
    ≡ pick a b c d e (min (if bo then 1 else if lo then 2 else if inn then 3 else if un || ml then 6 else if cl then 7 else if pl then 8 else 9) (rest cs bc ct ca at mr))
core true true bc lo inn ct ca at un ml mr cl pl va vb vc vd ve vx a b c d e pa pb pc pd pe h = refl
core false true true lo inn ct ca at un ml mr cl pl va vb vc vd ve vx a b c d e pa pb pc pd pe h = refl
core false true false lo inn true ca at un ml mr cl pl va vb vc vd ve vx a b c d e pa pb pc pd pe h = refl
core false true false lo inn false true at un ml mr cl pl va vb vc vd ve vx a b c d e pa pb pc pd pe h = refl
core false true false lo inn false false true un ml mr cl pl va vb vc vd ve vx a b c d e pa pb pc pd pe h = refl
core false true false lo inn false false false un ml true cl pl va vb vc vd ve vx a b c d e pa pb pc pd pe h = refl
core false true false lo inn false false false un ml false cl pl va vb vc vd ve vx a b c d e pa pb pc pd pe h = refl
core true false bc true inn ct ca at un ml mr cl pl va vb vc vd ve vx a b c d e pa pb pc pd pe h = refl
core false false true true inn ct ca at un ml mr cl pl va vb vc vd ve vx a b c d e pa pb pc pd pe h = refl
core false false false true inn true ca at un ml mr cl pl va vb vc vd ve vx a b c d e pa pb pc pd pe h = sym (pa h)
core false false false true inn false true at un ml mr cl pl va vb vc vd ve vx a b c d e pa pb pc pd pe h = sym (pa h)
core false false false true inn false false true un ml mr cl pl va vb vc vd ve vx a b c d e pa pb pc pd pe h = sym (pa h)
core false false false true inn false false false un ml true cl pl va vb vc vd ve vx a b c d e pa pb pc pd pe h = sym (pa h)
core false false false true inn false false false un ml false cl pl va vb vc vd ve vx a b c d e pa pb pc pd pe h = sym (pa h)
core true false bc false true ct ca at un ml mr cl pl va vb vc vd ve vx a b c d e pa pb pc pd pe h = refl
core false false true false true ct ca at un ml mr cl pl va vb vc vd ve vx a b c d e pa pb pc pd pe h = refl
core false false false false true true ca at un ml mr cl pl va vb vc vd ve vx a b c d e pa pb pc pd pe h = absurd (omega (arith, h))
core false false false false true false true at un ml mr cl pl va vb vc vd ve vx a b c d e pa pb pc pd pe h = absurd (omega (arith, h))
core false false false false true false false true un ml mr cl pl va vb vc vd ve vx a b c d e pa pb pc pd pe h = absurd (omega (arith, h))
core false false false false true false false false un ml true cl pl va vb vc vd ve vx a b c d e pa pb pc pd pe h = absurd (omega (arith, h))
core false false false false true false false false un ml false cl pl va vb vc vd ve vx a b c d e pa pb pc pd pe h = absurd (omega (arith, h))
core true false bc false false ct ca at true ml mr cl pl va vb vc vd ve vx a b c d e pa pb pc pd pe h = refl
core false false true false false ct ca at true ml mr cl pl va vb vc vd ve vx a b c d e pa pb pc pd pe h = refl
core false false false false false true ca at true ml mr cl pl va vb vc vd ve vx a b c d e pa pb pc pd pe h = sym (pb h)
core false false false false false false true at true ml mr cl pl va vb vc vd ve vx a b c d e pa pb pc pd pe h = sym (pc h)
core false false false false false false false true true ml mr cl pl va vb vc vd ve vx a b c d e pa pb pc pd pe h = refl
core false false false false false false false false true ml true cl pl va vb vc vd ve vx a b c d e pa pb pc pd pe h = refl
core false false false false false false false false true ml false cl pl va vb vc vd ve vx a b c d e pa pb pc pd pe h = refl
core true false bc false false ct ca at false true mr cl pl va vb vc vd ve vx a b c d e pa pb pc pd pe h = refl
core false false true false false ct ca at false true mr cl pl va vb vc vd ve vx a b c d e pa pb pc pd pe h = refl
core false false false false false true ca at false true mr cl pl va vb vc vd ve vx a b c d e pa pb pc pd pe h = sym (pb h)
core false false false false false false true at false true mr cl pl va vb vc vd ve vx a b c d e pa pb pc pd pe h = sym (pc h)
core false false false false false false false true false true mr cl pl va vb vc vd ve vx a b c d e pa pb pc pd pe h = refl
core false false false false false false false false false true true cl pl va vb vc vd ve vx a b c d e pa pb pc pd pe h = refl
core false false false false false false false false false true false cl pl va vb vc vd ve vx a b c d e pa pb pc pd pe h = refl
core true false bc false false ct ca at false false mr true pl va vb vc vd ve vx a b c d e pa pb pc pd pe h = refl
core false false true false false ct ca at false false mr true pl va vb vc vd ve vx a b c d e pa pb pc pd pe h = refl
core false false false false false true ca at false false mr true pl va vb vc vd ve vx a b c d e pa pb pc pd pe h = sym (pb h)
core false false false false false false true at false false mr true pl va vb vc vd ve vx a b c d e pa pb pc pd pe h = sym (pc h)
core false false false false false false false true false false mr true pl va vb vc vd ve vx a b c d e pa pb pc pd pe h = refl
core false false false false false false false false false false true true pl va vb vc vd ve vx a b c d e pa pb pc pd pe h = refl
core false false false false false false false false false false false true pl va vb vc vd ve vx a b c d e pa pb pc pd pe h = sym (pd h)
core true false bc false false ct ca at false false mr false true va vb vc vd ve vx a b c d e pa pb pc pd pe h = refl
core false false true false false ct ca at false false mr false true va vb vc vd ve vx a b c d e pa pb pc pd pe h = refl
core false false false false false true ca at false false mr false true va vb vc vd ve vx a b c d e pa pb pc pd pe h = sym (pb h)
core false false false false false false true at false false mr false true va vb vc vd ve vx a b c d e pa pb pc pd pe h = sym (pc h)
core false false false false false false false true false false mr false true va vb vc vd ve vx a b c d e pa pb pc pd pe h = refl
core false false false false false false false false false false true false true va vb vc vd ve vx a b c d e pa pb pc pd pe h = refl
core false false false false false false false false false false false false true va vb vc vd ve vx a b c d e pa pb pc pd pe h = sym (pe h)
core true false bc false false ct ca at false false mr false false va vb vc vd ve vx a b c d e pa pb pc pd pe h = refl
core false false true false false ct ca at false false mr false false va vb vc vd ve vx a b c d e pa pb pc pd pe h = refl
core false false false false false true ca at false false mr false false va vb vc vd ve vx a b c d e pa pb pc pd pe h = sym (pb h)
core false false false false false false true at false false mr false false va vb vc vd ve vx a b c d e pa pb pc pd pe h = sym (pc h)
core false false false false false false false true false false mr false false va vb vc vd ve vx a b c d e pa pb pc pd pe h = refl
core false false false false false false false false false false true false false va vb vc vd ve vx a b c d e pa pb pc pd pe h = refl
core false false false false false false false false false false false false false va vb vc vd ve vx a b c d e pa pb pc pd pe h = refl

-- the same, whether the right role asks for more or not
by_roles : (style : Style) (left right : LineTok) (a b c d e : ℕ)
    → (a ≤ 1 → a ≡ one_if (not style.cpp11_braced_list_style)) → (b ≤ 1 → b ≡ one_if (not (is_never style.space_before_parens))) → (c ≤ 1 → c ≡ one_if (is_always style.space_before_parens))
    → (d ≤ 1 → d ≡ one_if style.space_after_c_style_cast) → (e ≤ 1 → e ≡ one_if (not (is_right style.pointer_alignment)))
    → (more : Bool) → asks_more right.role ≡ more
    → pick a b c d e (min (group_behind left.role) (if more then 0 else rest (is_comma_or_semi right.role) (is_bracket_close right.role) (is_ctrl_open right.role) (is_call_or_decl_open right.role) (is_attached right.role) (is_member right.role))) ≤ 1
    → spaces_by_table style left right
    ≡ pick a b c d e (min (group_behind left.role) (if more then 0 else rest (is_comma_or_semi right.role) (is_bracket_close right.role) (is_ctrl_open right.role) (is_call_or_decl_open right.role) (is_attached right.role) (is_member right.role)))
by_roles style left right a b c d e pa pb pc pd pe true asks h =
    let none : min (group_behind left.role) 0 ≡ 0 = omega arith in
    let two : pick a b c d e (min (group_behind left.role) 0) ≡ 2 = ap (pick a b c d e) none in
    absurd (omega (arith, h, two))
by_roles style left right a b c d e pa pb pc pd pe false asks h =
    let l = left.role in
    let r = right.role in
    let r1 = or_parts (is_trailing r) _ asks in
    let r2 = or_parts (is_list_close r) _ r1.1 in
    let r3 = or_parts (is_block_close r) _ r2.1 in
    let r4 = or_parts (is_inner_or_stray r) _ r3.1 in
    let r5 = or_parts (is_pointer r) (is_asm_colon r) r4.1 in
    let lists = and_right (is_list_open l) (is_list_close r) r2.0 in
    let blocks = and_right (is_block_open l) (is_block_close r) r3.0 in
    let pointers = and_right (is_pointer l) (is_pointer r) r5.0 in
    let colons = and_right (is_asm_colon l) (is_asm_colon r) r5.1 in
    rw (lists, blocks, pointers, colons, r1.0, r2.0, r4.0, r5.0)
    (core (is_comma_or_semi r) (is_bracket_open l) (is_bracket_close r) (is_list_open l) (is_inner_or_stray l) (is_ctrl_open r) (is_call_or_decl_open r) (is_attached r) (is_unary_or_prefix l) (is_member_or_desig_dot l) (is_member r) (is_cast_close l) (is_pointer l)
    (one_if (not style.cpp11_braced_list_style)) (one_if (not (is_never style.space_before_parens))) (one_if (is_always style.space_before_parens)) (one_if style.space_after_c_style_cast) (one_if (not (is_right style.pointer_alignment))) (as_before right)
    a b c d e pa pb pc pd pe h)

-- groups that say what a style does, or nothing
pub groups_tell : (style : Style) (a b c d e : ℕ)
    → (a ≤ 1 → a ≡ one_if (not style.cpp11_braced_list_style)) → (b ≤ 1 → b ≡ one_if (not (is_never style.space_before_parens))) → (c ≤ 1 → c ≡ one_if (is_always style.space_before_parens))
    → (d ≤ 1 → d ≡ one_if style.space_after_c_style_cast) → (e ≤ 1 → e ≡ one_if (not (is_right style.pointer_alignment)))
    → TellBlanks style (2 ∷ 0 ∷ a ∷ 2 ∷ b ∷ c ∷ 0 ∷ d ∷ e ∷ 1 ∷ [])
groups_tell style a b c d e pa pb pc pd pe = λ left right h. by_roles style left right a b c d e pa pb pc pd pe (asks_more right.role) refl h

-- those of which nothing is said but what holds in each style
pub each_style_tells : (style : Style) → TellBlanks style (2 ∷ 0 ∷ 2 ∷ 2 ∷ 2 ∷ 2 ∷ 0 ∷ 2 ∷ 2 ∷ 1 ∷ [])
each_style_tells style = groups_tell style 2 2 2 2 2 (λ h. absurd (omega (arith, h))) (λ h. absurd (omega (arith, h))) (λ h. absurd (omega (arith, h))) (λ h. absurd (omega (arith, h))) (λ h. absurd (omega (arith, h)))

-- a blank where the gap had bytes and the two may not touch
pub kept_apart : (n k : ℕ) (empty touch : Bool) → n ≤ 1 → k ≡ one_if (not empty && not touch) → bit_or n k ≡ (if (n == 0) && not empty && not touch then 1 else n)
kept_apart zero k true touch h is = rw is refl
kept_apart zero k false true h is = rw is refl
kept_apart zero k false false h is = rw is refl
kept_apart (suc zero) k true touch h is = rw is refl
kept_apart (suc zero) k false true h is = rw is refl
kept_apart (suc zero) k false false h is = rw is refl
kept_apart (suc (suc n)) k empty touch h is = absurd (omega (arith, h))
