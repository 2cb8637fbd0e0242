use Rattle.std.proofs.Common.{◌≡◌, ◌≤◌, length, rules, subst}
use Rattle.std.specs.Prelude.{IfNone, None}
use Rattle.atlas_search.specs.declared.link.Link.{Link}
use Rattle.atlas_allocator.specs.Images.{described}
use Rattle.atlas_image.specs.Imaged.{AreImaged, used_below}
use Rattle.atlas_model.specs.Boxes.{IsPositive}
use Rattle.atlas_model.specs.Choice.{AreValid}
use Rattle.atlas_model.specs.Pixels.{options_of, sides_of}
use Rattle.atlas_model.specs.Trees.{most_slots}
use Rattle.atlas_allocator.proofs.AtlasLemmas.ImagedAtlas.{imaged-restorable, restored-atlas}
use Rattle.atlas_allocator.proofs.AtlasLemmas.KeptAtlas.{image-accepted}
use Rattle.atlas_allocator.proofs.atlas.AtlasAllocator.from_image.Goals as goal

pub restore-requires : goal.restore-requires
restore-requires g c =
    let i = c.args.image.now in
    let im : AreImaged c.deref-3.result.now i.unused i.size i.options c.in-Some.first = search rules in
    let positive : IsPositive (sides_of i.size) = search rules in
    let valid : AreValid (options_of i.options) = search rules in
    let short : length c.deref-3.result.now ≤ most_slots = search rules in
    imaged-restorable c.deref-3.result.now i.unused i.size i.options c.in-Some.first im positive c.is_size.ensures.width
    c.is_size.ensures.height valid short

pub invariant_of-result : goal.invariant_of-result
invariant_of-result g c =
    let i = c.args.image.now in
    let im : AreImaged c.deref-3.result.now i.unused i.size i.options c.in-Some.first = search rules in
    let positive : IsPositive (sides_of i.size) = search rules in
    let used : c.count_used-used.result ≡ used_below c.deref-3.result.now (length c.deref-3.result.now) = search rules in
    let short : length c.deref-3.result.now ≤ i.limit = search rules in
    let most : i.limit ≤ most_slots = search rules in
    restored-atlas c.deref-3.result.now i.unused i.size i.options c.in-Some.first im positive c.is_size.ensures.width
    c.is_size.ensures.height c.in_ok-store.store i.limit c.count_used-used.result c.in_ok-store.ensures.restored used short most

pub returns-in_default-clause-complete : goal.returns-in_default-clause-complete
returns-in_default-clause-complete g c = λ k _.
    let i = c.args.image.now in
    let no : c.in_ok-first.field-0 ≡ None = search rules in
    let never : (first : Link) → AreImaged c.deref.result.now i.unused i.size i.options first → ⊥ =
    subst (λ o. IfNone o ((first : Link) → AreImaged c.deref.result.now i.unused i.size i.options first → ⊥)) no
    c.in_ok-first.ensures.complete in
    let same : i.nodes.items ≡ c.deref.result.now = search rules in
    never k.atlas.stored.first
    (subst (λ ns. AreImaged ns i.unused i.size i.options k.atlas.stored.first) same (image-accepted (described i) k))
