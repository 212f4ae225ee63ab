-- The rows and the bytes of the item at a place, from what its entry says.
use Rattle.std.proofs.Common.{◌≡◌, ◌∙◌, ◌==◌, ℕ, ◌+◌, ◌-◌, ◌<◌, ◌≤◌, true, List, length, take, drop, get_or, refl, sym, ap, arith}
use Rattle.std.specs.Int.{is_in_range}
use Rattle.std.specs.List.{list_all}
use Rattle.std.proofs.lemmas.List.{length-drop, length-take-le}
use Rattle.std.proofs.lemmas.List.Elements.{All-get_or}
use Rattle.c_chars.specs.Characters.{is_plain}
use Rattle.token_arena.specs.Stored.{Stored, rows_of, first_row, last_row, width_of}
use Rattle.token_arena.specs.Entries.{AllWithin, ArePlain, IsPlain, IsSpelled, is_itself, is_printable, kept_by, kept_by_all}
use Rattle.token_arena.specs.declared.arena.Entry.{Entry}
use Rattle.token_arena.specs.declared.arena.Spelled.{Spelled}
use Rattle.token_arena.specs.declared.arena.Spelled.TheVariants.{Itself, Plain, Backslash, Other}
use Rattle.token_arena.proofs.EntryLemmas.{kept_there}
use Rattle.token_arena.proofs.RowLemmas.{first-printable, last-printable, rows-printable}

-- The item has so many rows, and the first and the last of them are so wide.
pub record HasRows (token : Stored) (rows first last : ℕ) : Type 0 where
  pub count_is : rows ≡ token.rows
  pub first_is : first ≡ token.first_width
  pub last_is : last ≡ token.last_width

-- the rows are those of the item's bytes
pub any_rows : (text : List ℕ) (entries : List Entry) (place : ℕ) (d : Entry) (raw : List ℕ) (token : Stored) → place < length entries
    → raw ≡ take (get_or entries place d).len (drop (get_or entries place d).start text)
    → HasRows (get_or (kept_by_all text entries) place token) (rows_of raw) (width_of (first_row raw)) (width_of (last_row raw))
any_rows text entries place d raw token within raw_is =
    let there : get_or (kept_by_all text entries) place token ≡ kept_by text (place == 0) (get_or entries place d) = kept_there text entries place d token within in
    record {
      count_is = ap rows_of raw_is ∙ ap (λ (t : Stored). t.rows) (sym there);
      first_is = ap (λ r. width_of (first_row r)) raw_is ∙ ap (λ (t : Stored). t.first_width) (sym there);
      last_is = ap (λ r. width_of (last_row r)) raw_is ∙ ap (λ (t : Stored). t.last_width) (sym there);
    }

printable_spelled : (spelled : Spelled) (raw : List ℕ) → is_printable spelled ≡ true → IsSpelled spelled raw → list_all (is_in_range 0x20 0x7E) raw ≡ true
printable_spelled Itself raw is told = told.0
printable_spelled Plain raw is told = told
printable_spelled Backslash raw is told = cc
printable_spelled Other raw is told = cc

itself_spelled : (spelled : Spelled) (raw : List ℕ) → is_itself spelled ≡ true → IsSpelled spelled raw → list_all is_plain raw ≡ true
itself_spelled Itself raw is told = told.1
itself_spelled Plain raw is told = cc
itself_spelled Backslash raw is told = cc
itself_spelled Other raw is told = cc

-- each byte of an item is a character by itself where its entry says so
pub itself_bytes : (text : List ℕ) (entries : List Entry) (place : ℕ) (d : Entry) (token : Stored) → place < length entries → ArePlain text entries
    → is_itself (get_or entries place d).spelled ≡ true → list_all is_plain (get_or (kept_by_all text entries) place token).raw ≡ true
itself_bytes text entries place d token below plain is =
    let entry : Entry = get_or entries place d in
    ap (λ (t : Stored). list_all is_plain t.raw) (kept_there text entries place d token below)
    ∙ itself_spelled entry.spelled (take entry.len (drop entry.start text)) is (All-get_or (IsPlain text) entries place d below plain)

-- printable ASCII is one row, as wide as it is long
pub plain_rows : (text : List ℕ) (entries : List Entry) (place : ℕ) (d : Entry) (token : Stored) → place < length entries → AllWithin text entries → ArePlain text entries
    → is_printable (get_or entries place d).spelled ≡ true → HasRows (get_or (kept_by_all text entries) place token) 1 (get_or entries place d).len (get_or entries place d).len
plain_rows text entries place d token below within plain is =
    let entry : Entry = get_or entries place d in
    let raw : List ℕ = take entry.len (drop entry.start text) in
    let printable : list_all (is_in_range 0x20 0x7E) raw ≡ true = printable_spelled entry.spelled raw is (All-get_or (IsPlain text) entries place d below plain) in
    let room : entry.start + entry.len ≤ length text = All-get_or (λ (e : Entry). e.start + e.len ≤ length text) entries place d below within in
    let rest : length (drop entry.start text) ≡ length text - entry.start = length-drop entry.start text in
    let len : length raw ≡ entry.len = length-take-le entry.len (drop entry.start text) (omega (arith, rest, room)) in
    let rows = any_rows text entries place d raw token below refl in
    record {
      count_is = sym (rows-printable raw printable) ∙ rows.count_is;
      first_is = sym (first-printable raw printable ∙ len) ∙ rows.first_is;
      last_is = sym (last-printable raw printable ∙ len) ∙ rows.last_is;
    }

-- An item is one row, as wide as it is long.
pub record IsOneRow (token : Stored) : Type 0 where
  pub count_is : token.rows ≡ 1
  pub first_is : token.first_width ≡ length token.raw
  pub last_is : token.last_width ≡ length token.raw

-- one of printable ASCII is
pub one_row : (text : List ℕ) (entries : List Entry) (place : ℕ) (d : Entry) (token : Stored) → place < length entries → AllWithin text entries → ArePlain text entries
    → is_printable (get_or entries place d).spelled ≡ true → IsOneRow (get_or (kept_by_all text entries) place token)
one_row text entries place d token below within plain is =
    let entry : Entry = get_or entries place d in
    let rows = plain_rows text entries place d token below within plain is in
    let there : get_or (kept_by_all text entries) place token ≡ kept_by text (place == 0) entry = kept_there text entries place d token below in
    let room : entry.start + entry.len ≤ length text = All-get_or (λ (e : Entry). e.start + e.len ≤ length text) entries place d below within in
    let rest : length (drop entry.start text) ≡ length text - entry.start = length-drop entry.start text in
    let len : length (get_or (kept_by_all text entries) place token).raw ≡ entry.len =
    ap (λ (t : Stored). length t.raw) there ∙ length-take-le entry.len (drop entry.start text) (omega (arith, rest, room)) in
    record { count_is = sym rows.count_is; first_is = sym rows.first_is ∙ sym len; last_is = sym rows.last_is ∙ sym len }
