use Rattle.std.proofs.Common.{◌≡◌, ℤ, pos, Bool, true, false, ◌&&◌, refl, arith}
use Rattle.std.specs.Ordering.{int_eq}
use Rattle.std.specs.Bool.{Decides}
use Rattle.std.proofs.lemmas.Bool.Decides.{Decides-int_eq}
use Rattle.std.proofs.lemmas.Bool.{and_from, both_ways}
use Rattle.std.proofs.lemmas.List.{get_or_default}
use Rattle.guillotiere.specs.declared.simple.boxes.FreeBox.{FreeBox}
use Rattle.atlas_model.specs.declared.geometry.Rectangle.{Rectangle}
use Rattle.guillotiere.proofs.SimpleLemmas.BoxShelves.{lone_box}
use Rattle.guillotiere.proofs.simple.is_listed.Goals as goal

holds : (t : Bool) (P : Type 0) → Decides t P → P → t ≡ true
holds t P d p = grind arith

itself : (z : ℤ) → int_eq z z ≡ true
itself z = holds (int_eq z z) (z ≡ z) (Decides-int_eq z z) refl

abbrev test : Rectangle → Rectangle → Bool
test a r = (int_eq a.min.x r.min.x && int_eq a.min.y r.min.y) && (int_eq a.max.x r.max.x && int_eq a.max.y r.max.y)

not_equal : (a r : Rectangle) → false ≡ test a r → a ≡ r → ⊥
not_equal a r e is = grind (arith, both_ways, and_from, itself)

abbrev blank : FreeBox
blank = lone_box (record { min = record { x = pos 0; y = pos 0 }; max = record { x = pos 0; y = pos 0 } })

pub loop-entry-preserved : goal.loop-entry-preserved
loop-entry-preserved c = grind (arith, not_equal, get_or_default)
