-- What structs of numbers mean.
use Rattle.std.specs.Prelude.{ℤ}
use Rattle.guillotiere_c.specs.declared.plain.PlainSize.{PlainSize}
use Rattle.guillotiere_c.specs.declared.plain.PlainRectangle.{PlainRectangle}
use Rattle.guillotiere_c.specs.declared.plain.PlainAllocation.{PlainAllocation}
use Rattle.guillotiere_c.specs.declared.plain.PlainChange.{PlainChange}
use Rattle.guillotiere_c.specs.declared.plain.PlainOptions.{PlainOptions}
use Rattle.guillotiere.specs.declared.Size.{Size}
use Rattle.guillotiere.specs.declared.Rectangle.{Rectangle}
use Rattle.guillotiere.specs.declared.Allocation.{Allocation}
use Rattle.guillotiere.specs.declared.Change.{Change}
use Rattle.guillotiere.specs.declared.AllocatorOptions.{AllocatorOptions}
use Rattle.guillotiere.specs.Boxes.{Sides}
use Rattle.guillotiere.specs.Choice.{Options}
use Rattle.guillotiere.specs.Pixels.{natural}

abbrev pub sides_in : (width height : ℤ) → Sides
sides_in width height = record { width = natural width; height = natural height }

abbrev pub size_in : PlainSize → Size
size_in s = record { width = s.width; height = s.height }

abbrev pub corners_in : PlainRectangle → Rectangle
corners_in r =
    record { min = record { x = r.min_x; y = r.min_y }; max = record { x = r.max_x; y = r.max_y } }

abbrev pub allocation_in : PlainAllocation → Allocation
allocation_in a = record { id = a.id; rectangle = corners_in a.rectangle }

abbrev pub change_in : PlainChange → Change
change_in c = record { old = allocation_in c.before; new = allocation_in c.after }

abbrev pub options_in : PlainOptions → Options
options_in o =
    record {
      alignment = sides_in o.alignment_width o.alignment_height;
      small_threshold = o.small_size_threshold;
      large_threshold = o.large_size_threshold;
    }

abbrev pub allocator_options_in : PlainOptions → AllocatorOptions
allocator_options_in o =
    record {
      alignment = record { width = o.alignment_width; height = o.alignment_height };
      small_size_threshold = o.small_size_threshold;
      large_size_threshold = o.large_size_threshold;
    }
