-- What an atlas stores, as plain data.
use Rattle.std.specs.Prelude.{ℕ, ◌≡◌, List, length, map}
use Rattle.atlas_model.specs.declared.geometry.Size.{Size}
use Rattle.atlas_model.specs.declared.options.AllocatorOptions.{AllocatorOptions}
use Rattle.atlas_search.specs.declared.link.Link.{Link}
use Rattle.atlas_store.specs.declared.slots.Node.{Node}
use Rattle.atlas_allocator.specs.declared.atlas.image.AtlasImage.{AtlasImage}
use Rattle.atlas_model.specs.Pixels.{options_of, sides_of}
use Rattle.atlas_model.specs.States.{State}
use Rattle.atlas_store.specs.Slots.Reading.{tree_of}
use Rattle.atlas_store.specs.Store.Restoring.{image_node}
use Rattle.atlas_store.specs.Stored.{AtlasValue, IsAtlas}

-- The data: what an atlas stores but for its lists of free slots. The node of an unused slot says which one comes next.
pub record Image : Type 0 where
  pub size : Size
  pub options : AllocatorOptions
  pub limit : ℕ
  pub unused : Link
  pub nodes : List Node

-- What the fields say.
abbrev pub described : {A : Type 0} → AtlasImage A → Image
described i =
    record { size = i.size; options = i.options; limit = i.limit; unused = i.unused; nodes = i.nodes.items }

-- The image of an atlas.
abbrev pub image_of : AtlasValue → Image
image_of v =
    record {
      size = v.stored.size;
      options = v.stored.shelf.options;
      limit = v.stored.limit;
      unused = v.stored.shelf.unused;
      nodes = map image_node v.stored.shelf.slots;
    }

-- The data are those of some atlas.
pub record IsImage (i : Image) : Type 0 where
  pub atlas : AtlasValue
  pub is_atlas : IsAtlas atlas.stored
  pub image : image_of atlas ≡ i

-- The state that data describe.
abbrev pub state_in : Image → State
state_in i =
    record {
      tree = tree_of i.nodes;
      size = sides_of i.size;
      options = options_of i.options;
      limit = i.limit;
      kept = length i.nodes;
    }
