-- Twins preprocess alike.
use Rattle.std.proofs.Common.{◌≡◌, ℕ, false, List, [], ◌∷◌, map, Some, option_map, refl, sym, ap, ◌∙◌, inl, inr}
use Rattle.std.specs.Prelude.{◌⊎◌}
use Rattle.c_chars.specs.Characters.{bytes_of}
use Rattle.c_chars.specs.declared.Dialect.{Dialect}
use Rattle.c_chars.specs.declared.LogicalChar.{LogicalChar}
use Rattle.c_grammar.specs.Items.{LineStart}
use Rattle.c_grammar.specs.Text.{ReadItem, piece_of, LexesText}
use Rattle.c_grammar.specs.Twin.{parts_of, IsTwin}
use Rattle.pp_model.specs.Token.{PpToken, erase, list_eq}
use Rattle.pp_model.specs.Preprocess.{Lexed, erase_event, preprocess}
use Rattle.pp_model.specs.Finding.{kind_of}
use Rattle.pp_model.specs.Stream.{streamed, stream_of, InText, cut_from, source_by, source_of}
use Rattle.pp_model.specs.Setting.{IncludeText, find_text, holds_in, table_by}
use Rattle.pp_model.specs.Alike.{AreTwinTexts, TwinsPreprocessAlike}
use Rattle.pp_model.proofs.Spelled.{spelled, items_spelled}
use Rattle.pp_model.proofs.Streams.{cut_from-blank, streamed-blank}
use Rattle.pp_model.proofs.Found.{text_found}
use Rattle.pp_model.proofs.Included.{cond-same, twins}
use Rattle.pp_model.proofs.Blanks.{blank_source, blank_streamed}

sections_blank : (d : Dialect) (text : List ℕ) (items : List ReadItem) (last : List LogicalChar) → LexesText d text items last → blank_source (source_of d text) ≡ Lexed (cut_from d (InText []) (map blank_streamed (stream_of d text items)))
sections_blank d text items last h =
    ap (λ z. blank_source (source_by d text z)) (text_found d text items last h)
    ∙ ap Lexed (cut_from-blank d (InText []) (stream_of d text items))

-- twins have the same sections, but for white space and lines
pub twin_sources : (d : Dialect) (b c : List ℕ) → IsTwin d b c → blank_source (source_of d b) ≡ blank_source (source_of d c)
twin_sources d b c h =
    let spellings : map (λ i. bytes_of i.chars) h.items ≡ map (λ i. bytes_of i.chars) h.other_items =
    items_spelled d b h.items h.last h.lexes ∙ (ap (map (spelled d)) h.raws ∙ sym (items_spelled d c h.other_items h.other_last h.other_lexes)) in
    let streams : map blank_streamed (stream_of d b h.items) ≡ map blank_streamed (stream_of d c h.other_items) =
    ap (λ z. map blank_streamed (streamed b false h.items z)) h.parts
    ∙ streamed-blank b c false false h.items h.other_items (parts_of d LineStart (map piece_of h.other_items)) h.kinds spellings in
    sections_blank d b h.items h.last h.lexes
    ∙ (ap (λ z. Lexed (cut_from d (InText []) z)) streams ∙ sym (sections_blank d c h.other_items h.other_last h.other_lexes))

text_sources : (d : Dialect) (b c : List ℕ) → (b ≡ c) ⊎ IsTwin d b c → blank_source (source_of d b) ≡ blank_source (source_of d c)
text_sources d b c (inl e) = ap (λ z. blank_source (source_of d z)) e
text_sources d b c (inr h) = twin_sources d b c h

find_text-same : (d : Dialect) (is js : List IncludeText) → AreTwinTexts d is js → (k : List PpToken) → option_map blank_source (option_map (source_of d) (find_text is k)) ≡ option_map blank_source (option_map (source_of d) (find_text js k))
find_text-same d [] [] h k = refl
find_text-same d (i ∷ is) (j ∷ js) h k =
    cond-same (λ o. option_map blank_source (option_map (source_of d) o)) (list_eq (map erase i.key) k) (list_eq (map erase j.key) k)
    (ap (λ q. list_eq (map erase q) k) h.0.key) (ap Some (text_sources d i.bytes j.bytes h.0.bytes)) (find_text-same d is js h.1 k)
find_text-same d [] (j ∷ js) h k = absurd h
find_text-same d (i ∷ is) [] h k = absurd h

pub alike : TwinsPreprocessAlike
alike d b c twin s t same =
    let read = kind_of d in
    twins read (holds_in s.conditions) (λ k. option_map (source_of d) (find_text s.includes k)) (λ k. option_map (source_of d) (find_text t.includes k)) s.depth (table_by read s.macros) s.turns (source_of d b) (source_of d c)
    (find_text-same d s.includes t.includes same.includes) (twin_sources d b c twin)
    ∙ ap (λ z. map erase_event (preprocess read (holds_in z) (λ k. option_map (source_of d) (find_text t.includes k)) s.depth (table_by read s.macros) s.turns (source_of d c))) same.conditions
    ∙ ap (λ z. map erase_event (preprocess read (holds_in t.conditions) (λ k. option_map (source_of d) (find_text t.includes k)) z (table_by read s.macros) s.turns (source_of d c))) same.depth
    ∙ ap (λ z. map erase_event (preprocess read (holds_in t.conditions) (λ k. option_map (source_of d) (find_text t.includes k)) t.depth (table_by read z) s.turns (source_of d c))) same.macros
    ∙ ap (λ z. map erase_event (preprocess read (holds_in t.conditions) (λ k. option_map (source_of d) (find_text t.includes k)) t.depth (table_by read t.macros) z (source_of d c))) same.turns
