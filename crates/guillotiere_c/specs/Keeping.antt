-- What a handle owns, and what it lends to a call that only reads. Where it holds nothing it is null and owns nothing; else it
-- owns the allocator at its pointer, and the right to free its block.
use Rattle.std.specs.Prelude.{Option, Some, None, []}
use mir.Syntax.{Ty}
use base.Fml.{Fml, ftrue, fsep, fex, feq}
use denote.RattleType.{RattleType}
use denote.RawPtr.{Ptr, null_ptr, Testable}
use denote.Struct.Lending.{lent_at}
use Rattle.std.specs.Box.Ownership.{box_owns}
use Rattle.std.specs.contracts.alloc.Global
use Rattle.std.specs.contracts.impls.GlobalAllocator.TheImpl
use Rattle.atlas_allocator.specs.contracts.atlas.AtlasAllocator
use Rattle.guillotiere.specs.contracts.simple.SimpleAtlasAllocator
use Rattle.atlas_pages.specs.contracts.paged.PagedAtlas
use Rattle.guillotiere.specs.Stored.{AtlasValue}
use Rattle.guillotiere.specs.SimpleStored.{SimpleValue}
use Rattle.atlas_pages.specs.Paged.{PagedState}
use Rattle.guillotiere_c.specs.contracts.followed.FollowedCache
use Rattle.guillotiere_c.specs.Following.{Followed}

-- The right to free a block of the heap; all handles of the heap are alike.
abbrev pub token : Ty → Ptr → Fml
token = TheImpl.ghosts.dealloc_token (record { memory = record { seal = tt } })

abbrev pub atlas_row : RattleType
atlas_row = AtlasAllocator.the_row Global.the_row TheImpl.ghosts

abbrev pub simple_row : RattleType
simple_row = SimpleAtlasAllocator.the_row Global.the_row TheImpl.ghosts

abbrev pub paged_row : RattleType
paged_row = PagedAtlas.the_row Global.the_row TheImpl.ghosts

abbrev pub cache_row : RattleType
cache_row = FollowedCache.the_row

abbrev pub keeps_atlas : Option AtlasValue → Ptr → Fml
keeps_atlas None p = feq Ptr p null_ptr
keeps_atlas (Some v) p = box_owns token (AtlasAllocator.the_row Global.the_row TheImpl.ghosts) p v

abbrev pub keeps_simple : Option SimpleValue → Ptr → Fml
keeps_simple None p = feq Ptr p null_ptr
keeps_simple (Some v) p = box_owns token (SimpleAtlasAllocator.the_row Global.the_row TheImpl.ghosts) p v

abbrev pub keeps_paged : Option PagedState → Ptr → Fml
keeps_paged None p = feq Ptr p null_ptr
keeps_paged (Some v) p = box_owns token (PagedAtlas.the_row Global.the_row TheImpl.ghosts) p v

abbrev pub keeps_cache : Option Followed → Ptr → Fml
keeps_cache None p = feq Ptr p null_ptr
keeps_cache (Some v) p = box_owns token FollowedCache.the_row p v

abbrev pub may_be_tested : Ptr → Fml
may_be_tested p = fex (Testable p) (λ _. ftrue)

-- What a call that only reads has of a handle. Where it holds nothing it is null; else what lies at its pointer is lent for good, and the
-- pointer may be compared with null.
abbrev pub lends : (R : RattleType) → Option R.Denot → Ptr → Fml
lends R None p = feq Ptr p null_ptr
lends R (Some v) p = fsep (may_be_tested p) (lent_at R p v [])
