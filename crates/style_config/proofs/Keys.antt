-- A key is text.
use Rattle.std.proofs.Common.{◌≡◌, ◌<◌, ◌+◌, ℕ, zero, suc, Bool, true, false, cond, List, [], ◌∷◌, take, arith, lit<, refl}
use Rattle.std.specs.Prelude.{slice_index}
use Rattle.std.specs.List.{prefix_len}
use Rattle.std.specs.Str.{IsUtf8}
use Rattle.std.proofs.lemmas.Str.{IsUtf8-from_ascii}
use Rattle.style_config.specs.Texts.{is_key_byte}

key_byte_is_low : (c : ℕ) → is_key_byte c ≡ true → c < 128
key_byte_is_low c is = grind arith

first_is_low : (c : ℕ) (text : List ℕ) (b : Bool) → is_key_byte c ≡ b → ((at : ℕ) → slice_index (take (prefix_len is_key_byte text) text) at < 128)
    → (at : ℕ) → slice_index (take (cond b (1 + prefix_len is_key_byte text) 0) (c ∷ text)) at < 128
first_is_low c text true is rest zero =
    let next : 1 + prefix_len is_key_byte text ≡ suc (prefix_len is_key_byte text) = omega arith in rw next (key_byte_is_low c is)
first_is_low c text true is rest (suc at) =
    let next : 1 + prefix_len is_key_byte text ≡ suc (prefix_len is_key_byte text) = omega arith in rw next (rest at)
first_is_low c text false is rest zero = lit< tt
first_is_low c text false is rest (suc at) = lit< tt

key_is_low : (text : List ℕ) (at : ℕ) → slice_index (take (prefix_len is_key_byte text) text) at < 128
key_is_low [] zero = lit< tt
key_is_low [] (suc at) = lit< tt
key_is_low (c ∷ text) at = first_is_low c text (is_key_byte c) refl (key_is_low text) at

-- the bytes of a key are UTF-8
pub key_is_text : (text : List ℕ) → IsUtf8 (take (prefix_len is_key_byte text) text)
key_is_text text = IsUtf8-from_ascii (take (prefix_len is_key_byte text) text) (key_is_low text)
