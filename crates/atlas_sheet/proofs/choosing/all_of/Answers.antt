use Rattle.std.proofs.Common.{◌≡◌, ◌<◌, ◌∙◌, All, IsSome, ap, arith, rules, subst, sym}
use Rattle.guillotiere.specs.Pixels.{sides_of}
use Rattle.atlas_sheet.specs.Allowances.{pixels}
use Rattle.atlas_sheet.specs.Grouping.{AreTooMany, picked, pixels_together}
use Rattle.atlas_sheet.specs.Settings.{CanPack}
use Rattle.atlas_sheet.proofs.GroupFinds.{are_chosen}
use Rattle.atlas_sheet.proofs.GroupRows.{can_pack_picked}
use Rattle.atlas_sheet.proofs.TooMany.{min_less, other_of, too_many_pixels}
use Rattle.atlas_sheet.proofs.choosing.all_of.Goals as goal

pub plainly_filled-requires : goal.plainly_filled-requires
plainly_filled-requires g c =
    let some_is : c.deref-3.result.now ≡ picked c.args.row.items c.args.sprites.now =
    c.deref-3.ensures.value ∙ c.in_ok-some.ensures.picked ∙ ap (λ r. picked r c.args.sprites.now) c.deref.ensures.value in
    subst (CanPack c.args.options.now) (sym some_is)
    (can_pack_picked c.args.options.now c.args.row.items c.args.sprites.now c.requires.good)

pub returns-then-is_whole-clause-chosen : goal.returns-then-is_whole-clause-chosen
returns-then-is_whole-clause-chosen g c groups closed =
    let p = c.in_ok-page.page in
    let some_is : c.deref-3.result.now ≡ picked c.args.row.items c.args.sprites.now =
    c.deref-3.ensures.value ∙ c.in_ok-some.ensures.picked ∙ ap (λ r. picked r c.args.sprites.now) c.deref.ensures.value in
    let whole : All IsSome p.places.items = search (rules, c.is_whole.ensures, c.if-is_whole.true) in
    are_chosen c.args.options.now c.args.sprites.now c.deref-3.result.now groups _ some_is c.requires.long closed
    c.in_ok-page.ensures.arranged c.in_ok-page.ensures.allowed whole

pub returns-then-pixels_of-sprite_pixels-clause-many : goal.returns-then-pixels_of-sprite_pixels-clause-many
returns-then-pixels_of-sprite_pixels-clause-many g c =
    let sheet = sides_of c.greatest_sheet.result in
    let some_is : c.deref-2.result.now ≡ picked c.args.row.items c.args.sprites.now =
    c.deref-2.ensures.value ∙ c.in_ok-some.ensures.picked ∙ ap (λ r. picked r c.args.sprites.now) c.deref.ensures.value in
    let more : pixels sheet < pixels_together c.deref-2.result.now =
    min_less (pixels sheet) (pixels_together c.deref-2.result.now) 18446744073709551615
    (omega (arith, c.pixels_of.ensures, c.sprite_pixels.ensures, c.if-pixels_of-sprite_pixels.true)) in
    too_many_pixels c.args.options.now (picked c.args.row.items c.args.sprites.now) sheet c.greatest_sheet.ensures
    (subst (λ ss. pixels sheet < pixels_together ss) some_is more)

pub returns-else-is_whole-clause-many : goal.returns-else-is_whole-clause-many
returns-else-is_whole-clause-many g c =
    let p = c.in_ok-page.page in
    let some_is : c.deref-3.result.now ≡ picked c.args.row.items c.args.sprites.now =
    c.deref-3.ensures.value ∙ c.in_ok-some.ensures.picked ∙ ap (λ r. picked r c.args.sprites.now) c.deref.ensures.value in
    let not_whole : All IsSome p.places.items → ⊥ = λ all. search (rules, all, c.is_whole.ensures, c.if-is_whole.false) in
    subst (AreTooMany c.args.options.now) some_is (other_of c.in_ok-page.ensures.whole not_whole)
