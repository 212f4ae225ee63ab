-- The lines of a view are those of its first part by itself, and then those of what follows by itself.
use Rattle.std.proofs.Common.{◌≡◌, ◌∙◌, inl, inr, ℕ, ◌+◌, ◌<◌, true, false, Option, Some, None, List, [], ◌∷◌, ◌++◌}
use Rattle.std.proofs.Common.{length, map, length-append, refl, sym, ap, arith}
use Rattle.std.proofs.lemmas.List.{append-nil, length-map}
use Rattle.style_table.specs.declared.style.Style.{Style}
use Rattle.token_arena.specs.Gaps.{Contents}
use Rattle.item_classes.specs.Viewed.{item_class, classes_of}
use Rattle.statement_lines.specs.declared.token.CodeToken.{CodeToken}
use Rattle.statement_lines.specs.declared.line.Line.{Line}
use Rattle.statement_lines.specs.declared.braces.Braces.{Braces}
use Rattle.statement_lines.specs.declared.open.Start.TheVariants.{Fresh}
use Rattle.item_classes.specs.declared.part.Part.{Part}
use Rattle.statement_lines.specs.Wrapping.{braces_of}
use Rattle.unwrapped_lines.specs.Viewed.{code_places_from, parts_of, token_at}
use Rattle.statement_lines.specs.Tree.{lines_from, end_level_from, lines_of, end_level}
use Rattle.unwrapped_lines.specs.Comments.{Tree, begins_from, no_marks}
use Rattle.unwrapped_lines.specs.Lines.{lines_between, tree_of}
use Rattle.statement_lines.specs.Stack.{IsCut}
use Rattle.unwrapped_lines.proofs.CutLemmas.{parts_count}
use Rattle.part_laws.specs.LinesCut.{IsFirstPart, partner_behind, partners_in, LinesStay}
use Rattle.part_laws.proofs.CodeCut.{token_behind, code_line_behind, BeginsWord, IsCutBehind, code_of, file_up_to}
use Rattle.part_laws.proofs.CodeOfBoth.{code_of_both}
use Rattle.part_laws.proofs.PartsOfBoth.{tokens_in, ends_token, tokens_so, ends_so, parts_of_both, ends_in_code}
use Rattle.part_laws.proofs.PartsOfBoth.{comments_begin, ends_code}
use Rattle.part_laws.proofs.BeginsOfBoth.{FirstAt, AreBoth, begins_of_both, begin_behind, lines_of_both}
use Rattle.part_laws.proofs.FirstPart.{IsEnded, first_part}
use Rattle.part_laws.proofs.Counted.{places_count}
use Rattle.part_laws.proofs.LinesOfWindow.{InWindow, in_window}
use Rattle.part_laws.proofs.FileCut.{AreLinesCut, cuts_lines}
use Rattle.part_laws.proofs.CodeOfFirstPart.{IsCodeCut, cuts_code}
use Rattle.part_laws.proofs.PartnersStay.{partners_stay}
use Rattle.unwrapped_lines.proofs.Started.{lines_cut_views}
use Rattle.part_laws.proofs.Turns.{lines_cut}

-- ## Behind no token

partner_here : (partner : Option ℕ) → partner_behind 0 partner ≡ partner
partner_here None = refl
partner_here (Some place) = (let same : 0 + place ≡ place = omega arith in ap (λ (k : ℕ). Some k) same)

tokens_here : (tokens : List CodeToken) → map (token_behind 0) tokens ≡ tokens
tokens_here [] = refl
tokens_here (token ∷ tokens) =
    ap (λ (p : Option ℕ). record { class = token.class; began = token.began; touched = token.touched; partner = p } ∷ map (token_behind 0) tokens)
    (partner_here token.partner)
    ∙ ap (λ (ts : List CodeToken). token ∷ ts) (tokens_here tokens)

code_lines_here : (lines : List Line) → map (code_line_behind 0) lines ≡ lines
code_lines_here [] = refl
code_lines_here (line ∷ lines) =
    let first : 0 + line.first ≡ line.first = omega arith in
    let end : 0 + line.end ≡ line.end = omega arith in
    ap (λ (a : ℕ). record { first = a; end = 0 + line.end; level = line.level; kind = line.kind; list_level = line.list_level } ∷ map
    (code_line_behind 0) lines) first
    ∙ (ap (λ (a : ℕ). record { first = line.first; end = a; level = line.level; kind = line.kind; list_level = line.list_level } ∷ map
    (code_line_behind 0) lines) end
    ∙ ap (λ (ls : List Line). line ∷ ls) (code_lines_here lines))

-- ## The tokens of both

begins_there : (count : ℕ) (tokens : List CodeToken) → BeginsWord tokens → BeginsWord (map (token_behind count) tokens)
begins_there count [] begins = begins
begins_there count (token ∷ tokens) begins = begins

-- nothing stands before them
none_behind : IsCutBehind []
none_behind = record { list = refl; closes = refl }

first_lines : (braces : Braces) (earlier later : List CodeToken) → BeginsWord later
    → lines_from (length earlier) braces (earlier ++ later) (file_up_to (length earlier) ∷ []) Fresh 0 ≡ lines_of braces earlier
first_lines braces earlier later begins =
    let n : ℕ = length earlier in
    let window = in_window n braces [] earlier later (file_up_to n ∷ []) Fresh 0 none_behind (inr begins) (omega arith, tt) in
    let end : n ≡ 0 + n = omega arith in
    ap (λ (ts : List CodeToken). lines_from n braces (ts ++ later) (file_up_to n ∷ []) Fresh 0) (sym (tokens_here earlier))
    ∙ (ap (λ (e : ℕ). lines_from n braces (map (token_behind 0) earlier ++ later) (file_up_to e ∷ []) Fresh 0) end
    ∙ (window.lines ∙ code_lines_here (lines_of braces earlier)))

-- what is told of the later tokens behind the earlier ones, in the words of a window
second_told : {X : Type 0} (f : ℕ → List CodeToken → ℕ → ℕ → X) (earlier later : List CodeToken)
    → let there : List CodeToken = map (token_behind (length earlier)) later in
    f (length there) (earlier ++ there) (length (earlier ++ there)) (length earlier) ≡ f (length later) (earlier ++ (there ++ []))
    (length earlier + length later) (length earlier + 0)
second_told f earlier later =
    let n : ℕ = length earlier in
    let there : List CodeToken = map (token_behind (length earlier)) later in
    let count : length there ≡ length later = length-map later (token_behind (length earlier)) in
    let end : length (earlier ++ there) ≡ n + length later = omega (arith, length-append earlier there, count) in
    let at : n ≡ n + 0 = omega arith in
    ap (λ (k : ℕ). f k (earlier ++ there) (length (earlier ++ there)) n) count
    ∙ (ap (λ (e : ℕ). f (length later) (earlier ++ there) e n) end
    ∙ (ap (λ (ts : List CodeToken). f (length later) (earlier ++ ts) (n + length later) n) (sym (append-nil there))
    ∙ ap (λ (k : ℕ). f (length later) (earlier ++ (there ++ [])) (n + length later) k) at))

second_window : (count : ℕ) (braces : Braces) (earlier later : List CodeToken) → IsCutBehind earlier
    → InWindow count braces earlier later [] (file_up_to (length later) ∷ []) Fresh 0
second_window count braces earlier later behind =
    in_window count braces earlier later [] (file_up_to (length later) ∷ []) Fresh 0 behind (inl refl) (omega arith, tt)

second_lines : (braces : Braces) (earlier later : List CodeToken) → IsCutBehind earlier
    → let there : List CodeToken = map (token_behind (length earlier)) later in
    lines_from (length there) braces (earlier ++ there) (file_up_to (length (earlier ++ there)) ∷ []) Fresh (length earlier)
    ≡ map (code_line_behind (length earlier)) (lines_of braces later)
second_lines braces earlier later behind =
    second_told (λ k tokens end at. lines_from k braces tokens (file_up_to end ∷ []) Fresh at) earlier later
    ∙ (second_window (length later) braces earlier later behind).lines

second_level : (braces : Braces) (earlier later : List CodeToken) → IsCutBehind earlier
    → let there : List CodeToken = map (token_behind (length earlier)) later in
    end_level_from (length there + 1) braces (earlier ++ there) (file_up_to (length (earlier ++ there)) ∷ []) Fresh (length earlier) ≡ end_level braces later
second_level braces earlier later behind =
    second_told (λ k tokens end at. end_level_from (k + 1) braces tokens (file_up_to end ∷ []) Fresh at) earlier later
    ∙ (second_window (length later + 1) braces earlier later behind).level

-- ## The trees

starts : (at total : ℕ) (lines : List Line) → IsCut at total lines → FirstAt at lines
starts at total [] cut = tt
starts at total (line ∷ lines) cut = cut.0

trees_of_both : (style : Style) (arena : Contents) (earlier later : List ℕ) → IsFirstPart arena earlier later
    → AreBoth (tree_of style arena (earlier ++ later) (partners_in arena (earlier ++ later))) (tree_of style arena earlier (partners_in arena earlier))
    (tree_of style arena later (partners_in arena later))
trees_of_both style arena earlier later first =
    record {
      follows = record {
        lines = ap (lines_of braces) tokens
            ∙ (cut.lines
            ∙ (ap (λ (ls : List Line). ls ++ rest) (first_lines braces before there begins)
            ∙ ap (λ (ls : List Line). lines_of braces before ++ ls) (second_lines braces before behind code.behind)));
        total = ap length tokens ∙ omega (arith, length-append before there, length-map behind (token_behind (length before)));
        level = ap (end_level braces) tokens ∙ (cut.level ∙ second_level braces before behind code.behind);
      };
      cut = lines_cut braces before;
      begins = starts 0 (length behind) (lines_of braces behind) (lines_cut braces behind);
    }
  where
    braces : Braces
    braces = braces_of style

    before : List CodeToken
    before = code_of arena earlier

    behind : List CodeToken
    behind = code_of arena later

    there : List CodeToken
    there = map (token_behind (length (code_of arena earlier))) (code_of arena later)

    code : IsCodeCut arena earlier later
    code = cuts_code arena earlier later first

    rest : List Line
    rest = lines_from (length there) braces (before ++ there) (file_up_to (length (before ++ there)) ∷ []) Fresh (length before)

    begins : BeginsWord there
    begins = begins_there (length before) behind code.before

    tokens : code_of arena (earlier ++ later) ≡ before ++ there
    tokens = code_of_both arena earlier later (partners_in arena (earlier ++ later)) (partners_stay arena earlier later first)

    cut : AreLinesCut braces before there
    cut = cuts_lines braces before there code.passed code.paired begins

-- ## The law

some_items : (arena : Contents) (ids : List ℕ) → BeginsWord (code_of arena ids) → 0 < length ids
some_items arena [] begins = absurd begins
some_items arena (id ∷ ids) begins = omega arith

pub lines_stay : LinesStay
lines_stay style arena earlier later first =
    ap (λ (k : ℕ). lines_between k (begins_from whole (parts_of arena (earlier ++ later) (classes_of arena (earlier ++ later))) 0 no_marks))
    (length-append earlier later)
    ∙ (ap (lines_between (length earlier + length later)) begins
    ∙ lines_of_both (length earlier) (length later) (begins_from tree parts 0 no_marks) (begins_from rest more 0 no_marks) some
    (lines_cut_views style arena later (partners_in arena later)))
  where
    whole : Tree
    whole = tree_of style arena (earlier ++ later) (partners_in arena (earlier ++ later))

    tree : Tree
    tree = tree_of style arena earlier (partners_in arena earlier)

    rest : Tree
    rest = tree_of style arena later (partners_in arena later)

    parts : List Part
    parts = parts_of arena earlier (classes_of arena earlier)

    more : List Part
    more = parts_of arena later (classes_of arena later)

    end : IsEnded arena earlier later
    end = first_part arena earlier later first

    ends : ends_code arena false earlier ≡ true
    ends = ends_in_code arena earlier end.ends

    some : 0 < length later
    some = some_items arena later (cuts_code arena earlier later first).before

    count : length parts ≡ length earlier
    count = parts_count arena earlier 0 false (classes_of arena earlier) ∙ length-map earlier (item_class arena)

    tokens : tokens_in parts ≡ tree.total
    tokens =
        tokens_so arena earlier 0 false (classes_of arena earlier)
        ∙ sym (length-map (code_places_from 0 (classes_of arena earlier)) (token_at arena earlier (classes_of arena earlier) (partners_in arena earlier))
        ∙ places_count 0 (classes_of arena earlier))

    last : ends_token false parts ≡ true
    last = ends_so arena earlier earlier 0 false false ∙ ends

    begins : begins_from whole (parts_of arena (earlier ++ later) (classes_of arena (earlier ++ later))) 0 no_marks
        ≡ begins_from tree parts 0 no_marks ++ map (begin_behind (length earlier)) (begins_from rest more 0 no_marks)
    begins =
        ap (λ (ps : List Part). begins_from whole ps 0 no_marks) (parts_of_both arena earlier later ends (comments_begin arena later end.follows))
        ∙ (begins_of_both whole tree rest parts more (trees_of_both style arena earlier later first) tokens last
        ∙ ap (λ (k : ℕ). begins_from tree parts 0 no_marks ++ map (begin_behind k) (begins_from rest more 0 no_marks)) count)
