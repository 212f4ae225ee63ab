use Rattle.std.proofs.Common.{◌≡◌, true, subst}
use Rattle.std.specs.List.{list_all}
use Rattle.std.proofs.lemmas.Option.{get_or_from_slice_get}
use Rattle.token_arena.specs.Entries.{told_by}
use Rattle.token_arena.specs.Stored.{Stored}
use Rattle.item_classes.specs.Viewed.{is_itself}
use Rattle.item_classes.proofs.viewed.item_class.Goals as goal

pub class_of_plain_word-class-requires : goal.class_of_plain_word-class-requires
class_of_plain_word-class-requires c =
    let token = told_by c.get-token.result in
    subst (λ (t : Stored). list_all is_itself t.raw ≡ true) (get_or_from_slice_get c.args.arena.now.tokens c.args.id.0 token token c.get-token.ensures) (c.is_itself.ensures token c.if-is_itself.true)

pub class_of_punctuator-requires : goal.class_of_punctuator-requires
class_of_punctuator-requires c = λ yes.
    let token = told_by c.get-token.result in
    subst (λ (t : Stored). list_all is_itself t.raw ≡ true) (get_or_from_slice_get c.args.arena.now.tokens c.args.id.0 token token c.get-token.ensures) (c.is_itself-in-Punct.ensures token yes)
