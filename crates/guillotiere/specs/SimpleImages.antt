-- A simple allocator as plain data.
use Rattle.std.specs.Prelude.{◌≡◌, All, map}
use Rattle.guillotiere.specs.declared.simple.image.SimpleImage.{SimpleImage}
use Rattle.atlas_model.specs.Boxes.{AreDisjoint, AreSameBoxes, IsPositive}
use Rattle.atlas_model.specs.Choice.{AreValid}
use Rattle.atlas_model.specs.Pixels.{box_of, options_of, sides_of}
use Rattle.atlas_model.specs.Simple.{SimpleState}
use Rattle.atlas_search.specs.Rectangles.{IsUnsigned}
use Rattle.guillotiere.specs.Apart.{IsSolidWithin}

-- Data are those of an allocator in this state: its free boxes in some order, its size and its options.
pub record IsImageOf {A : Type 0} (image : SimpleImage A) (s : SimpleState) : Type 0 where
  pub boxes : AreSameBoxes (map box_of image.free.items) s.free
  pub unsigned : All IsUnsigned image.free.items
  pub sides : sides_of image.size ≡ s.size
  pub settings : options_of image.options ≡ s.options

-- Data that an allocator may have.
pub record IsSimpleImage {A : Type 0} (image : SimpleImage A) : Type 0 where
  pub positive : IsPositive (sides_of image.size)
  pub valid : AreValid (options_of image.options)
  pub within : All (IsSolidWithin (sides_of image.size)) image.free.items
  pub apart : AreDisjoint (map box_of image.free.items)
