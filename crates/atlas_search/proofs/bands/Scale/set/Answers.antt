use Rattle.std.proofs.Common.{◌≡◌, ◌∙◌, sym, arith, Decides, ◌&&◌}
use Rattle.std.specs.Ordering.{int_eq}
use Rattle.std.proofs.lemmas.Bool.{not-false}
use Rattle.std.proofs.lemmas.Bool.Decides.{Decides-and, Decides-like, Decides-int_eq}
use Rattle.atlas_model.specs.declared.options.AllocatorOptions.{AllocatorOptions}
use Rattle.atlas_model.specs.declared.geometry.Size.{Size}
use Rattle.atlas_search.proofs.bands.Scale.set.Goals as goal

Decides-size : (a b : Size) → Decides (int_eq a.width b.width && int_eq a.height b.height) (a ≡ b)
Decides-size a b = grind (arith, Decides-like, Decides-and, Decides-int_eq)

Decides-options : (a b : AllocatorOptions)
    → Decides ((int_eq a.alignment.width b.alignment.width && int_eq a.alignment.height b.alignment.height)
    && (int_eq a.small_size_threshold b.small_size_threshold && int_eq a.large_size_threshold b.large_size_threshold)) (a ≡ b)
Decides-options a b = grind (arith, Decides-size, Decides-like, Decides-and, Decides-int_eq)

pub returns-else-ne : goal.returns-else-ne
returns-else-ne c =
    sym c.self.view_is ∙ (Decides-options c.self.inside.options c.args.options.now).0 (not-false _ (sym c.ne.ensures ∙ c.if-ne.false))
