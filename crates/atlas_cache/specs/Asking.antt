-- What a cache is made with, what an entry asks a page for, and where it lies in what it is given.
use Rattle.std.specs.Prelude.{ℤ, pos, ◌≡◌, ◌+◌, ◌*◌, ◌<◌, ◌≤◌, ◌≤ℤ◌, ◌<ℤ◌}
use Rattle.guillotiere.specs.declared.Size.{Size}
use Rattle.guillotiere.specs.declared.Rectangle.{Rectangle}
use Rattle.guillotiere.specs.Boxes.{Sides, box_at, Fits, IsPositive}
use Rattle.guillotiere.specs.Choice.{AreValid, rounded}
use Rattle.guillotiere.specs.Pixels.{box_of, natural, options_of, rectangle_of, sides_of}
use Rattle.guillotiere.specs.Replies.{IsExact}
use Rattle.atlas_cache.specs.declared.options.CacheOptions.{CacheOptions}
use Rattle.atlas_cache.specs.declared.error.OptionsError.{OptionsError}
use Rattle.atlas_cache.specs.declared.error.OptionsError.TheVariants.{EmptyPage, LargestPage, NoPages, Padding, Atlas, NothingFits}

-- The sides of an entry with the padding at both ends of each.
abbrev pub bordered : CacheOptions → Size → Sides
bordered o size =
    record { width = natural size.width + 2 * natural o.padding; height = natural size.height + 2 * natural o.padding }

-- An empty page of the largest size has room for an entry of this size.
pub record CanStand (o : CacheOptions) (size : Size) : Type 0 where
  pub positive : IsPositive (sides_of size)
  pub width : (rounded (options_of o.atlas) (bordered o size)).width ≤ natural o.largest_page.width
  pub height : (rounded (options_of o.atlas) (bordered o size)).height ≤ natural o.largest_page.height

-- The least size that isn't empty.
abbrev pub one_pixel : Size
one_pixel = record { width = pos 1; height = pos 1 }

-- A cache can be made with these options.
pub record AreUsable (o : CacheOptions) : Type 0 where
  pub page : IsPositive (sides_of o.page)
  pub largest : Fits (sides_of o.page) (sides_of o.largest_page)
  pub pages : 0 < o.pages
  pub padding : pos 0 ≤ℤ o.padding
  pub atlas : AreValid (options_of o.atlas)
  pub room : CanStand o one_pixel

-- A new page isn't empty, and fits the largest one.
abbrev pub HasGoodSizes : CacheOptions → Type 0
HasGoodSizes o = IsPositive (sides_of o.page) × Fits (sides_of o.page) (sides_of o.largest_page)

-- And there are pages.
abbrev pub HasGoodPages : CacheOptions → Type 0
HasGoodPages o = HasGoodSizes o × (0 < o.pages)

-- And the padding isn't below 0.
abbrev pub HasGoodPadding : CacheOptions → Type 0
HasGoodPadding o = HasGoodPages o × (pos 0 ≤ℤ o.padding)

-- And the atlas's options are valid.
abbrev pub HasGoodAtlas : CacheOptions → Type 0
HasGoodAtlas o = HasGoodPadding o × AreValid (options_of o.atlas)

-- What an error says of options: what is wrong, and that nothing of what is looked at before is.
abbrev pub IsFaultIn : CacheOptions → OptionsError → Type 0
IsFaultIn o EmptyPage = IsPositive (sides_of o.page) → ⊥
IsFaultIn o LargestPage = IsPositive (sides_of o.page) × (Fits (sides_of o.page) (sides_of o.largest_page) → ⊥)
IsFaultIn o NoPages = HasGoodSizes o × (o.pages ≡ 0)
IsFaultIn o Padding = HasGoodPages o × (o.padding <ℤ pos 0)
IsFaultIn o Atlas = HasGoodPadding o × (AreValid (options_of o.atlas) → ⊥)
IsFaultIn o NothingFits = HasGoodAtlas o × (CanStand o one_pixel → ⊥)

-- A rectangle with no pixel.
abbrev pub no_pixels : Rectangle
no_pixels = record { min = record { x = pos 0; y = pos 0 }; max = record { x = pos 0; y = pos 0 } }

-- The rectangle is at least as large as an entry of this size with its padding.
pub record IsBorderedBy (padding : ℤ) (size : Size) (r : Rectangle) : Type 0 where
  pub exact : IsExact r
  pub least : pos 0 ≤ℤ padding
  pub positive : IsPositive (sides_of size)
  pub wide : (box_of r).min.x + (natural size.width + 2 * natural padding) ≤ (box_of r).max.x
  pub high : (box_of r).min.y + (natural size.height + 2 * natural padding) ≤ (box_of r).max.y

-- Where an entry of this size lies in its rectangle: behind the padding at the left and above.
abbrev pub inner_of : (padding : ℤ) → Size → Rectangle → Rectangle
inner_of padding size r =
    rectangle_of (box_at
    (record { x = (box_of r).min.x + natural padding; y = (box_of r).min.y + natural padding }) (sides_of size))
