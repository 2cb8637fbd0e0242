-- Codes by which proofs tell states apart: a struct that holds an atlas may have its state as the value of its model.
use Rattle.std.specs.Prelude.{◌≡◌, ℕ, ℤ, zero, suc, Bool, true, false, List, [], ◌∷◌, refl}
use Rattle.std.specs.Coded.{Coded, code_by, coded×, coded_ℕ, coded_ℤ, coded_bool, coded_list}
use Rattle.std.proofs.Common.{ap, ◌∙◌}
use Rattle.atlas_model.specs.Boxes.{Axis, Sides}
use Rattle.atlas_model.specs.Boxes.Axis.{Horizontal, Vertical}
use Rattle.atlas_model.specs.Choice.{Options}
use Rattle.atlas_model.specs.Trees.{Members, Tree}
use Rattle.atlas_model.specs.Trees.Members.{End, Free, Alloc, Seq}
use Rattle.atlas_model.specs.States.{State}

abbrev is_horizontal : Axis → Bool
is_horizontal Horizontal = true
is_horizontal Vertical = false

abbrev axis_from : Bool → Axis
axis_from true = Horizontal
axis_from false = Vertical

pub axis_from-is_horizontal : (axis : Axis) → axis_from (is_horizontal axis) ≡ axis
axis_from-is_horizontal Horizontal = refl
axis_from-is_horizontal Vertical = refl

abbrev pub axis_code : Coded Axis
axis_code = code_by Bool coded_bool is_horizontal axis_from axis_from-is_horizontal

-- Members as the list of their constructors, in order: 0 is the end, 1 a free member, 2 an allocated one, 3 a sequence.
abbrev Parts : Type 0
Parts = List (ℕ × (ℕ × ℕ))

abbrev parts_before : Members → Parts → Parts
parts_before End parts = (0, (0, 0)) ∷ parts
parts_before (Free e rest) parts = (1, (e, 0)) ∷ parts_before rest parts
parts_before (Alloc id e rest) parts = (2, (id, e)) ∷ parts_before rest parts
parts_before (Seq e inner rest) parts = (3, (e, 0)) ∷ parts_before inner (parts_before rest parts)

-- A constructor put over members that are built.
abbrev with_part : ℕ → ℕ → ℕ → List Members → List Members
with_part zero a b ms = End ∷ ms
with_part (suc zero) a b (rest ∷ ms) = Free a rest ∷ ms
with_part (suc (suc zero)) a b (rest ∷ ms) = Alloc a b rest ∷ ms
with_part (suc (suc (suc k))) a b (inner ∷ rest ∷ ms) = Seq a inner rest ∷ ms
with_part _ a b ms = ms

abbrev all_built : Parts → List Members
all_built [] = []
all_built (p ∷ parts) = with_part p.0 p.1.0 p.1.1 (all_built parts)

abbrev first_built : List Members → Members
first_built [] = End
first_built (m ∷ ms) = m

all_built-parts_before : (m : Members) (parts : Parts) → all_built (parts_before m parts) ≡ m ∷ all_built parts
all_built-parts_before End parts = refl
all_built-parts_before (Free e rest) parts = ap (with_part 1 e 0) (all_built-parts_before rest parts)
all_built-parts_before (Alloc id e rest) parts = ap (with_part 2 id e) (all_built-parts_before rest parts)
all_built-parts_before (Seq e inner rest) parts =
    ap (with_part 3 e 0)
    (all_built-parts_before inner (parts_before rest parts) ∙ ap (λ ms. inner ∷ ms) (all_built-parts_before rest parts))

abbrev to_parts : Members → Parts
to_parts m = parts_before m []

abbrev from_parts : Parts → Members
from_parts parts = first_built (all_built parts)

pub from_parts-to_parts : (m : Members) → from_parts (to_parts m) ≡ m
from_parts-to_parts m = ap first_built (all_built-parts_before m [])

abbrev pub members_code : Coded Members
members_code =
    code_by Parts (coded_list (coded× coded_ℕ (coded× coded_ℕ coded_ℕ))) to_parts from_parts from_parts-to_parts

abbrev pub tree_code : Coded Tree
tree_code =
    code_by (Axis × Members) (coded× axis_code members_code) (λ t. (t.axis, t.members))
    (λ p. record { axis = p.0; members = p.1 }) (λ _. refl)

abbrev pub sides_code : Coded Sides
sides_code =
    code_by (ℕ × ℕ) (coded× coded_ℕ coded_ℕ) (λ s. (s.width, s.height))
    (λ p. record { width = p.0; height = p.1 }) (λ _. refl)

abbrev pub options_code : Coded Options
options_code =
    code_by (Sides × (ℤ × ℤ)) (coded× sides_code (coded× coded_ℤ coded_ℤ))
    (λ o. (o.alignment, (o.small_threshold, o.large_threshold)))
    (λ p. record { alignment = p.0; small_threshold = p.1.0; large_threshold = p.1.1 }) (λ _. refl)

-- The code of a state, for `ghost coded`.
abbrev pub state_code : Coded State
state_code =
    code_by (Tree × (Sides × (Options × (ℕ × ℕ))))
    (coded× tree_code (coded× sides_code (coded× options_code (coded× coded_ℕ coded_ℕ))))
    (λ s. (s.tree, (s.size, (s.options, (s.limit, s.kept)))))
    (λ p. record { tree = p.0; size = p.1.0; options = p.1.1.0; limit = p.1.1.1.0; kept = p.1.1.1.1 }) (λ _. refl)
