-- No bracket of a part has its partner in another part.
use Rattle.std.proofs.Common.{◌∙◌, ℕ, ◌++◌, map, ap}
use Rattle.std.proofs.lemmas.List.{map-append, length-map}
use Rattle.item_classes.specs.Viewed.{item_class, classes_of}
use Rattle.token_classes.specs.Partners.{partners_of}
use Rattle.part_laws.specs.LinesCut.{partner_behind, partners_in, PartnersStay}
use Rattle.part_laws.proofs.FirstPart.{first_part}
use Rattle.part_laws.proofs.Matchings.{partners_of_both}

pub partners_stay : PartnersStay
partners_stay arena earlier later is =
    let ended = first_part arena earlier later is in
    ap partners_of (map-append (item_class arena) earlier later)
    ∙ (partners_of_both (classes_of arena earlier) (classes_of arena later) ended.closed_there
    ∙ ap (λ (count : ℕ). partners_in arena earlier ++ map (partner_behind count) (partners_in arena later)) (length-map earlier (item_class arena)))
