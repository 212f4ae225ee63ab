use Rattle.std.proofs.Common.{◌≡◌, ◌∙◌, ◌+◌, ◌<◌, Bool, List, ◌∷◌, length, drop, get_or, refl, sym, ap, arith, add-one}
use Rattle.std.proofs.Common.{drop-cons}
use Rattle.token_arena.proofs.Whole.{sections_are_cut}
use Rattle.token_arena.specs.Sections.{sections_of}
use Rattle.token_arena.specs.declared.directives.Section.{Section}
use Rattle.token_arena.specs.declared.directives.Section.TheVariants.{Text}
use Rattle.replacements.specs.Decisions.{decided_all}
use Rattle.early_gaps.specs.AllLaid.{laid_in}
use Rattle.early_gaps.proofs.AllMade.{cut_order}
use Rattle.early_gaps.proofs.all_directives.all.lay_all.Goals as goal

pub loop-section-init : goal.loop-section-init
loop-section-init c =
    let none = c.none-conditionals.ensures in
    record {
      len = refl;
      few = let long = ap length none in omega (arith, long);
      rest = ap (λ (k : List Bool). decided_all c.args.plan.now (laid_in c.args.style.now c.args.arena.now k c.args.sections.now)) none
          ∙ ap (λ (s : List Section). decided_all c.args.plan.now (laid_in c.args.style.now c.args.arena.now _ s)) c.requires.sections;
    }

pub lay_section-requires-clause-few : goal.lay_section-requires-clause-few
lay_section-requires-clause-few c =
    let arena = c.args.arena.now in
    let sections = ap length c.requires.sections in
    let order = cut_order 0 (length arena.tokens) (sections_of arena) (sections_are_cut arena) in
    omega (arith, order, sections, c.loop-section.invariant.few, c.loop-section-test.true, c.len-count.ensures.count, c.len-count.ensures.most)

pub loop-section-preserved : goal.loop-section-preserved
loop-section-preserved c =
    let style = c.args.style.now in
    let arena = c.args.arena.now in
    let sections = c.args.sections.now in
    let i = c.loop-section.section-index in
    let v = c.loop-section.invariant in
    let made = c.in_ok-lay_section.ensures in
    let within : i < length sections = c.loop-section-test.true in
    let section : Section = get_or sections i (Text 0 0) in
    let dropped : drop i sections ≡ section ∷ drop (i + 1) sections = rw (add-one, drop-cons sections i (Text 0 0)) in
    record {
      len = made.len ∙ v.len;
      few = omega (arith, made.few, v.few);
      rest = made.plan (drop (i + 1) sections) ∙ (ap (λ (s : List Section). decided_all c.loop-section.plan (laid_in style arena c.loop-section.conditionals s)) (sym dropped) ∙ v.rest);
    }
