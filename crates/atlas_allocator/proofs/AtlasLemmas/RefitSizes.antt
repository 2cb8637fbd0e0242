-- The size of an exact rectangle has the sides of its box.
use Rattle.std.proofs.Common.{◌≡◌, arith}
use Rattle.atlas_model.specs.Boxes.{box_sides}
use Rattle.atlas_model.specs.Pixels.{box_of, sides_of}
use Rattle.atlas_search.specs.Rectangles.{measured}
use Rattle.atlas_model.specs.Replies.{IsExact}
use Rattle.atlas_model.specs.declared.geometry.Rectangle.{Rectangle}
use Rattle.atlas_model.specs.declared.geometry.Size.{Size}

pub measured-box : (rectangle : Rectangle) (size : Size) → IsExact rectangle → size ≡ measured rectangle
    → sides_of size ≡ box_sides (box_of rectangle)
measured-box rectangle size exact is = grind arith
