-- The keys that stand in a document, in a set of them.
use Rattle.std.proofs.Common.{◌≡◌, ℕ, Bool, true, false, not, ◌||◌, List, [], ◌∷◌, ◌++◌, map, String, string_bytes, string_eq, bytes_eq, refl, ap, sym, ◌∙◌, if◌then◌else◌}
use Rattle.std.specs.declared.alloc.Global.{Global}
use Rattle.std.specs.List.{list_any}
use Rattle.indexmap.specs.IndexSet.{insert_key}
use Rattle.style_config.specs.Reading.{is_among}

among-mapped : (keys : List (String Global)) (name : String Global) → list_any (string_eq name) keys ≡ is_among (string_bytes name) (map string_bytes keys)
among-mapped [] name = refl
among-mapped (key ∷ keys) name = ap (λ rest. bytes_eq (string_bytes name) (string_bytes key) || rest) (among-mapped keys name)

map-pushed : (keys : List (String Global)) (name : String Global) → map string_bytes (keys ++ name ∷ []) ≡ map string_bytes keys ++ string_bytes name ∷ []
map-pushed [] name = refl
map-pushed (key ∷ keys) name = ap (λ rest. string_bytes key ∷ rest) (map-pushed keys name)

not-true : (b : Bool) → not b ≡ true → b ≡ false
not-true true is = sym is
not-true false is = refl

not-false : (b : Bool) → not b ≡ false → b ≡ true
not-false true is = refl
not-false false is = sym is

-- a key that is new was put behind the others
pub key_is_new : (keys after : List (String Global)) (name : String Global) (path : List ℕ) (added : Bool) → added ≡ not (list_any (string_eq name) keys) → added ≡ true
    → after ≡ insert_key string_eq keys name → string_bytes name ≡ path
    → (is_among path (map string_bytes keys) ≡ false) × (map string_bytes after ≡ map string_bytes keys ++ path ∷ [])
key_is_new keys after name path added is new put text =
    let none : list_any (string_eq name) keys ≡ false = not-true (list_any (string_eq name) keys) (sym is ∙ new) in (
      ap (λ p. is_among p (map string_bytes keys)) (sym text) ∙ (sym (among-mapped keys name) ∙ none),
      ap (map string_bytes) (put ∙ ap (λ b. if b then keys else keys ++ name ∷ []) none) ∙ (map-pushed keys name ∙ ap (λ p. map string_bytes keys ++ p ∷ []) text),
    )

-- a key that isn't new stands among the others
pub key_is_old : (keys : List (String Global)) (name : String Global) (path : List ℕ) (added : Bool) → added ≡ not (list_any (string_eq name) keys) → added ≡ false
    → string_bytes name ≡ path → is_among path (map string_bytes keys) ≡ true
key_is_old keys name path added is old text =
    ap (λ p. is_among p (map string_bytes keys)) (sym text) ∙ (sym (among-mapped keys name) ∙ not-false (list_any (string_eq name) keys) (sym is ∙ old))
