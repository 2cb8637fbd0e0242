-- The tree of cuts, each member with the number of its slot. No public clause cites this module.
use Rattle.std.specs.Prelude.{ℕ, ◌+◌, ◌*◌, ◌==◌, Bool, false, if◌then◌else◌}
use Rattle.atlas_model.specs.Trees.{Members, most_slots}
use Rattle.atlas_model.specs.Trees as tree
use Rattle.atlas_search.specs.Numbers.{no_slot, same}

-- An allocated member has the generation of its slot in place of its id.
pub data Numbered : Type 0 where
  End : Numbered
  Free : (slot extent : ℕ) → Numbered → Numbered
  Alloc : (slot generation extent : ℕ) → Numbered → Numbered
  Seq : (slot extent : ℕ) → (inner : Numbered) → Numbered → Numbered

-- An id is the slot's number, and above its 24 bits the generation.
abbrev pub id_of : (slot generation : ℕ) → ℕ
id_of i g = i + most_slots * g

-- The tree without the numbers.
abbrev pub erase : Numbered → Members
erase End = tree.End
erase (Free i e rest) = tree.Free e (erase rest)
erase (Alloc i g e rest) = tree.Alloc (id_of i g) e (erase rest)
erase (Seq i e inner rest) = tree.Seq e (erase inner) (erase rest)

-- The sum of what the members' slots weigh.
abbrev pub weigh : (weight : ℕ → ℕ) → Numbered → ℕ
weigh weight End = 0
weigh weight (Free i e rest) = weight i + weigh weight rest
weigh weight (Alloc i g e rest) = weight i + weigh weight rest
weigh weight (Seq i e inner rest) = weight i + weigh weight inner + weigh weight rest

-- How often a slot's number stands in a tree.
abbrev pub tally : ℕ → Numbered → ℕ
tally i n = weigh (same i) n

-- How many members a tree has.
abbrev pub numbers : Numbered → ℕ
numbers n = weigh (λ _. 1) n

-- The number of the first member, or none.
abbrev pub first_slot : Numbered → ℕ
first_slot End = no_slot
first_slot (Free i e rest) = i
first_slot (Alloc i g e rest) = i
first_slot (Seq i e inner rest) = i

-- Where the members from one on are those that are looked for, they become what `change` makes of them; in a container
-- of extent e, what `inside e` makes of them.
abbrev pub edited_in : (is : Numbered → Bool) → (inside : ℕ → Numbered → Numbered) → (change : Numbered → Numbered)
    → Numbered → Numbered
edited_in is inside change End = if is End then change End else End
edited_in is inside change (Free i e rest) =
    if is (Free i e rest) then change (Free i e rest) else Free i e (edited_in is inside change rest)
edited_in is inside change (Alloc i g e rest) =
    if is (Alloc i g e rest) then change (Alloc i g e rest) else Alloc i g e (edited_in is inside change rest)
edited_in is inside change (Seq i e inner rest) =
    if is (Seq i e inner rest) then change (Seq i e inner rest)
    else Seq i e (edited_in is inside (inside e) inner) (edited_in is inside change rest)

-- The same change in each container.
abbrev pub edited : (is : Numbered → Bool) → (change : Numbered → Numbered) → Numbered → Numbered
edited is change n = edited_in is (λ _. change) change n

-- The first member is the free leaf, the allocated leaf or the container at slot i.
abbrev pub is_free_at : ℕ → Numbered → Bool
is_free_at i (Free j e rest) = i == j
is_free_at i n = false

abbrev pub is_alloc_at : ℕ → Numbered → Bool
is_alloc_at i (Alloc j g e rest) = i == j
is_alloc_at i n = false

abbrev pub is_seq_at : ℕ → Numbered → Bool
is_seq_at i (Seq j e inner rest) = i == j
is_seq_at i n = false

-- A first member of this kind becomes what `make` makes of it.
abbrev pub on_free : ((slot extent : ℕ) → Numbered → Numbered) → Numbered → Numbered
on_free make (Free i e rest) = make i e rest
on_free make n = n

abbrev pub on_alloc : ((slot generation extent : ℕ) → Numbered → Numbered) → Numbered → Numbered
on_alloc make (Alloc i g e rest) = make i g e rest
on_alloc make n = n

abbrev pub on_seq : ((slot extent : ℕ) → (inner : Numbered) → Numbered → Numbered) → Numbered → Numbered
on_seq make (Seq i e inner rest) = make i e inner rest
on_seq make n = n

-- The allocated leaf at slot i becomes free.
abbrev pub marked : ℕ → Numbered → Numbered
marked i n = edited (is_alloc_at i) (on_alloc (λ j g e rest. Free j e rest)) n

-- A free first member of `rest` is added to the free member i of extent e.
abbrev pub grown_by : ℕ → ℕ → Numbered → Numbered
grown_by i e (Free j d rest) = Free i (e + d) rest
grown_by i e rest = Free i e rest

-- The free leaf at slot i takes in the next one.
abbrev pub joined : ℕ → Numbered → Numbered
joined i n = edited (is_free_at i) (on_free grown_by) n

-- A container at slot j with these members inside, or the free leaf that takes its place.
abbrev pub lifted_to : ℕ → ℕ → Numbered → Numbered → Numbered
lifted_to j e (Free k d End) rest = Free j e rest
lifted_to j e inner rest = Seq j e inner rest

-- The container at slot i gives way to its lone free child.
abbrev pub lifted : ℕ → Numbered → Numbered
lifted i n = edited (is_seq_at i) (on_seq lifted_to) n
