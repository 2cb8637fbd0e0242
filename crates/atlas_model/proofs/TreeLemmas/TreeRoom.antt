-- Each free box lies in a free box after normalising, freeing and growing.
use Rattle.std.proofs.Common.{rules, ◌-◌, ltb, refl, ◌≡◌, ℕ, ◌+◌, ◌≤◌, Bool, true, false, cond, List, [], ◌∷◌, ◌++◌}
use Rattle.std.proofs.Common.{subst, sym, ◌∙◌, arith, inl, inr, ◌⊎◌}
use Rattle.std.proofs.lemmas.List.Elements.{All-nil, All-cons}
use Rattle.atlas_model.specs.Boxes.{Axis, Position, Sides, Box, other, side, sized, moved, box_at, box_sides, origin}
use Rattle.atlas_model.specs.Boxes.{Fits, IsInside}
use Rattle.atlas_model.specs.Boxes.Axis.{Horizontal, Vertical}
use Rattle.atlas_model.specs.Changes.{free_before, seq_before, nf, mark, release, lengthened, lengthened_to, widened}
use Rattle.atlas_model.specs.Changes.{grown_members, grown}
use Rattle.atlas_model.specs.Laws.TreeLaws.{IsGrown, LiesInOneOf}
use Rattle.atlas_model.specs.Trees.{IsNormal, Grant, Members, Tree, total, IsCut, IsWellFormed, free_boxes, live}
use Rattle.atlas_model.specs.Trees.Members.{End, Free, Alloc, Seq}
use Rattle.std.specs.List.{All, Contains}
use Rattle.atlas_model.proofs.TreeLemmas.TreeBasics.{other_twice, longer_side, moved-twice, live_among, free_among, live_among-seq}
use Rattle.atlas_model.proofs.TreeLemmas.TreeBasics.{free_among-seq}
use Rattle.atlas_model.proofs.TreeLemmas.TreeGrowth.{total-nf}
use Rattle.atlas_model.proofs.TreeLemmas.TreeIds.{Contains-first, Contains-later, Contains-none}
use Rattle.atlas_model.proofs.TreeLemmas.TreeKept.{grown_kept, cut-mark}
use Rattle.atlas_model.proofs.TreeLemmas.TreeLive.{live_grown}

-- b lies in one of these, by recursion.
abbrev pub LiesAmong : Box → List Box → Type 0
LiesAmong b [] = ⊥
LiesAmong b (c ∷ cs) = IsInside b c ⊎ LiesAmong b cs

room_left : (b : Box) (cs ds : List Box) → LiesAmong b cs → LiesAmong b (cs ++ ds)
room_left b (c ∷ cs) ds (inl h) = inl h
room_left b (c ∷ cs) ds (inr h) = inr (room_left b cs ds h)
room_left b [] ds h = absurd h

room_right : (b : Box) (cs ds : List Box) → LiesAmong b ds → LiesAmong b (cs ++ ds)
room_right b [] ds h = h
room_right b (c ∷ cs) ds h = inr (room_right b cs ds h)

room_cases : (b : Box) (cs ds : List Box) → LiesAmong b (cs ++ ds) → LiesAmong b cs ⊎ LiesAmong b ds
room_cases b [] ds h = inr h
room_cases b (c ∷ cs) ds (inl h) = inl (inl h)
room_cases b (c ∷ cs) ds (inr h) = grind (arith, room_cases b cs ds h)

pub inside_trans : (b c d : Box) → IsInside b c → IsInside c d → IsInside b d
inside_trans b c d h k = (omega (arith, h.0, k.0), omega (arith, h.1, k.1), omega (arith, h.2, k.2), omega (arith, h.3, k.3))

pub inside_first : (axis : Axis) (o : Position) (e k across : ℕ)
    → IsInside (box_at o (sized axis e across)) (box_at o (sized axis (e + k) across))
inside_first Horizontal o e k across = (omega arith, omega arith, omega arith, omega arith)
inside_first Vertical o e k across = (omega arith, omega arith, omega arith, omega arith)

pub inside_second : (axis : Axis) (o : Position) (e k across : ℕ)
    → IsInside (box_at (moved axis o e) (sized axis k across)) (box_at o (sized axis (e + k) across))
inside_second Horizontal o e k across = (omega arith, omega arith, omega arith, omega arith)
inside_second Vertical o e k across = (omega arith, omega arith, omega arith, omega arith)

-- What has room in a free extent or after it has room once they are joined.
room-free_before : (b : Box) (axis : Axis) (o : Position) (across e : ℕ) (m : Members)
    → IsInside b (box_at o (sized axis e across)) ⊎ LiesAmong b (free_among axis (moved axis o e) across m)
    → LiesAmong b (free_among axis o across (free_before e m))
room-free_before b axis o across e (Free k rest) (inl h) = inl (inside_trans b _ _ h (inside_first axis o e k across))
room-free_before b axis o across e (Free k rest) (inr (inl h)) = inl (inside_trans b _ _ h (inside_second axis o e k across))
room-free_before b axis o across e (Free k rest) (inr (inr h)) =
    inr (subst (λ p. LiesAmong b (free_among axis p across rest)) (moved-twice axis o e k) h)
room-free_before b axis o across e m h = h

room-seq_before : (b : Box) (axis : Axis) (o : Position) (across e : ℕ) (inner m : Members) → total inner ≡ across
    → LiesAmong b (free_among (other axis) o e inner) ⊎ LiesAmong b (free_among axis (moved axis o e) across m)
    → LiesAmong b (free_among axis o across (seq_before e inner m))
room-seq_before b axis o across e (Free k End) m sum (inl (inl h)) = grind arith
room-seq_before b axis o across e (Free k End) m sum (inl (inr h)) = absurd h
room-seq_before b axis o across e (Free k End) m sum (inr h) = room-free_before b axis o across e m (inr h)
room-seq_before b axis o across e inner m sum (inl h) =
    subst (LiesAmong b) (sym (free_among-seq axis o across e inner m))
    (room_left b (free_among (other axis) o e inner) (free_among axis (moved axis o e) across m) h)
room-seq_before b axis o across e inner m sum (inr h) =
    subst (LiesAmong b) (sym (free_among-seq axis o across e inner m))
    (room_right b (free_among (other axis) o e inner) (free_among axis (moved axis o e) across m) h)

room-nf : (b : Box) (axis : Axis) (o : Position) (across : ℕ) (m : Members) → IsCut across m
    → LiesAmong b (free_among axis o across m) → LiesAmong b (free_among axis o across (nf m))
room-nf b axis o across End cut h = h
room-nf b axis o across (Free e rest) cut (inl h) = room-free_before b axis o across e (nf rest) (inl h)
room-nf b axis o across (Free e rest) cut (inr h) =
    room-free_before b axis o across e (nf rest) (inr (room-nf b axis (moved axis o e) across rest cut.1 h))
room-nf b axis o across (Alloc id e rest) cut h = room-nf b axis (moved axis o e) across rest cut.1 h
room-nf b axis o across (Seq e inner rest) cut h =
    room-seq_before b axis o across e (nf inner) (nf rest) (total-nf inner ∙ cut.1)
    (both (room_cases b (free_among (other axis) o e inner) (free_among axis (moved axis o e) across rest)
    (subst (LiesAmong b) (free_among-seq axis o across e inner rest) h)) (room-nf b (other axis) o e inner cut.2)
    (room-nf b axis (moved axis o e) across rest cut.3))
  where
    both : {A B C D : Type 0} → A ⊎ B → (A → C) → (B → D) → C ⊎ D
    both (inl a) f g = inl (f a)
    both (inr a) f g = inr (g a)

-- The grant is among these, by recursion.
abbrev pub Holds : ℕ → Box → List Grant → Type 0
Holds id b [] = ⊥
Holds id b (p ∷ ps) = ((p.id ≡ id) × (p.box ≡ b)) ⊎ Holds id b ps

holds_cases : (id : ℕ) (b : Box) (ps qs : List Grant) → Holds id b (ps ++ qs) → Holds id b ps ⊎ Holds id b qs
holds_cases id b [] qs h = inr h
holds_cases id b (p ∷ ps) qs (inl h) = inl (inl h)
holds_cases id b (p ∷ ps) qs (inr h) = grind (arith, holds_cases id b ps qs h)

room-mark : (s : ℕ → Bool) (id : ℕ) (b : Box) → s id ≡ true → (axis : Axis) (o : Position) (across : ℕ) (m : Members)
    → Holds id b (live_among axis o across m) → LiesAmong b (free_among axis o across (mark s m))
room-mark s id b chosen axis o across End h = absurd h
room-mark s id b chosen axis o across (Free e rest) h = inr (room-mark s id b chosen axis (moved axis o e) across rest h)
room-mark s id b chosen axis o across (Alloc i e rest) (inl h) = grind arith
room-mark s id b chosen axis o across (Alloc i e rest) (inr h) =
    grind (arith, room-mark s id b chosen axis (moved axis o e) across rest h)
room-mark s id b chosen axis o across (Seq e inner rest) h =
    subst (LiesAmong b) (sym (free_among-seq axis o across e (mark s inner) (mark s rest)))
    (joined (holds_cases id b (live_among (other axis) o e inner) (live_among axis (moved axis o e) across rest)
    (subst (Holds id b) (live_among-seq axis o across e inner rest) h)) (room-mark s id b chosen (other axis) o e inner)
    (room-mark s id b chosen axis (moved axis o e) across rest))
  where
    joined : Holds id b (live_among (other axis) o e inner) ⊎ Holds id b (live_among axis (moved axis o e) across rest)
        → (Holds id b (live_among (other axis) o e inner) → LiesAmong b (free_among (other axis) o e (mark s inner)))
        → (Holds id b (live_among axis (moved axis o e) across rest) → LiesAmong b (free_among axis (moved axis o e) across (mark s rest)))
        → LiesAmong b (free_among (other axis) o e (mark s inner) ++ free_among axis (moved axis o e) across (mark s rest))
    joined (inl k) f g = grind (arith, room_left, free_among)
    joined (inr k) f g = grind (arith, room_right, free_among)

room-mark-free : (s : ℕ → Bool) (b : Box) (axis : Axis) (o : Position) (across : ℕ) (m : Members)
    → LiesAmong b (free_among axis o across m) → LiesAmong b (free_among axis o across (mark s m))
room-mark-free s b axis o across End h = h
room-mark-free s b axis o across (Free e rest) (inl h) = inl h
room-mark-free s b axis o across (Free e rest) (inr h) = inr (room-mark-free s b axis (moved axis o e) across rest h)
room-mark-free s b axis o across (Alloc id e rest) h =
    by_test (s id) (room-mark-free s b axis (moved axis o e) across rest h)
  where
    by_test : (x : Bool) → LiesAmong b (free_among axis (moved axis o e) across (mark s rest))
        → LiesAmong b (free_among axis o across (cond x (Free e (mark s rest)) (Alloc id e (mark s rest))))
    by_test true later = inr later
    by_test false later = later
room-mark-free s b axis o across (Seq e inner rest) h =
    subst (LiesAmong b) (sym (free_among-seq axis o across e (mark s inner) (mark s rest)))
    (both (room-mark-free s b (other axis) o e inner) (room-mark-free s b axis (moved axis o e) across rest)
    (room_cases b (free_among (other axis) o e inner) (free_among axis (moved axis o e) across rest)
    (subst (LiesAmong b) (free_among-seq axis o across e inner rest) h)))
  where
    both : {A C : Type 0} → (A → LiesAmong b (free_among (other axis) o e (mark s inner)))
        → (C → LiesAmong b (free_among axis (moved axis o e) across (mark s rest))) → A ⊎ C
        → LiesAmong b (free_among (other axis) o e (mark s inner) ++ free_among axis (moved axis o e) across (mark s rest))
    both f g (inl a) = room_left b (free_among (other axis) o e (mark s inner)) _ (f a)
    both f g (inr c) = room_right b (free_among (other axis) o e (mark s inner)) _ (g c)

-- Growth

room-lengthened : (b : Box) (d : ℕ) (axis : Axis) (o : Position) (across : ℕ) (m : Members)
    → LiesAmong b (free_among axis o across m) → LiesAmong b (free_among axis o across (lengthened d m))
room-lengthened b d axis o across End h = absurd h
room-lengthened b d axis o across (Free e End) (inl h) = inl (inside_trans b _ _ h (inside_first axis o e d across))
room-lengthened b d axis o across (Free e End) (inr h) = absurd h
room-lengthened b d axis o across (Free e (Free k rest)) (inr h) =
    inr (room-lengthened b d axis (moved axis o e) across (Free k rest) h)
room-lengthened b d axis o across (Free e (Alloc id k rest)) (inr h) =
    inr (room-lengthened b d axis (moved axis o e) across (Alloc id k rest) h)
room-lengthened b d axis o across (Free e (Seq k inner rest)) (inr h) =
    inr (room-lengthened b d axis (moved axis o e) across (Seq k inner rest) h)
room-lengthened b d axis o across (Alloc id e rest) h = room-lengthened b d axis (moved axis o e) across rest h
room-lengthened b d axis o across (Seq e inner rest) h =
    subst (LiesAmong b) (sym (free_among-seq axis o across e inner (lengthened d rest)))
    (either (room_cases b (free_among (other axis) o e inner) (free_among axis (moved axis o e) across rest)
    (subst (LiesAmong b) (free_among-seq axis o across e inner rest) h)) (room-lengthened b d axis (moved axis o e) across rest))
  where
    either : LiesAmong b (free_among (other axis) o e inner)
        ⊎ LiesAmong b (free_among axis (moved axis o e) across rest)
        → (LiesAmong b (free_among axis (moved axis o e) across rest)
        → LiesAmong b (free_among axis (moved axis o e) across (lengthened d rest)))
        → LiesAmong b (free_among (other axis) o e inner ++ free_among axis (moved axis o e) across (lengthened d rest))
    either (inl k) longer = grind (arith, room_left, free_among)
    either (inr k) longer = grind (arith, room_right, free_among)
room-lengthened b d axis o across m (inl h) = inl h

room-lengthened_to : (b : Box) (u n : ℕ) (axis : Axis) (o : Position) (across : ℕ) (m : Members)
    → LiesAmong b (free_among axis o across m) → LiesAmong b (free_among axis o across (lengthened_to u n m))
room-lengthened_to b u n axis o across m h = by_test (ltb u n)
  where
    by_test : (x : Bool) → LiesAmong b (free_among axis o across (cond x (lengthened (n - u) m) m))
    by_test true = room-lengthened b (n - u) axis o across m h
    by_test false = h

room-widened : (b : Box) (old new : Sides) (axis : Axis) (m : Members) → side (other axis) old ≤ side (other axis) new
    → LiesAmong b (free_among axis origin (side (other axis) old) m)
    → LiesAmong b (free_boxes new (widened (side (other axis) old) (side (other axis) new) axis m))
room-widened b old new axis m wide h = by_test (ltb u n) refl
  where
    u : ℕ
    u = side (other axis) old

    n : ℕ
    n = side (other axis) new

    by_test : (x : Bool) → ltb u n ≡ x
        → LiesAmong b (free_boxes new (cond x (record { axis = other axis; members = Seq u m (Free (n - u) End) })
        (record { axis = axis; members = m })))
    by_test true lt =
        subst (LiesAmong b) (sym (free_among-seq (other axis) origin (side (other (other axis)) new) u m (Free (n - u) End)))
        (room_left b (free_among (other (other axis)) origin u m) (free_among (other axis) (moved (other axis) origin u)
        (side (other (other axis)) new) (Free (n - u) End))
        (subst (λ a. LiesAmong b (free_among a origin u m)) (sym (other_twice axis)) h))
    by_test false ge = grind arith

room-grown : (b : Box) (old new : Sides) (axis : Axis) (m : Members) → total m ≡ side axis old → Fits old new
    → LiesAmong b (free_among axis origin (side (other axis) old) m)
    → LiesAmong b (free_boxes new (grown_members old new axis m))
room-grown b old new axis (Free e End) along fit (inl h) = grind arith
room-grown b old new axis (Free e End) along fit (inr h) = absurd h
room-grown b old new axis m along fit h = search (rules, room-widened, longer_side, room-lengthened_to)

-- The same with std's words.

lies_in_one : (b : Box) (cs : List Box) → LiesAmong b cs → LiesInOneOf cs b
lies_in_one b [] h = absurd h
lies_in_one b (c ∷ cs) (inl h) = (c, Contains-first c cs, h)
lies_in_one b (c ∷ cs) (inr h) =
    let later : LiesInOneOf cs b = lies_in_one b cs h in (later.0, Contains-later c cs later.0 later.1, later.2)

holds_from : (g : Grant) (gs : List Grant) → Contains gs g → Holds g.id g.box gs
holds_from g [] at = Contains-none g at
holds_from g (p ∷ ps) at = grind (arith, holds_from g ps)

all_lie : (bs cs : List Box) → ((b : Box) → Contains bs b → LiesAmong b cs) → All (LiesInOneOf cs) bs
all_lie [] cs each = All-nil (LiesInOneOf cs)
all_lie (b ∷ bs) cs each =
    All-cons (LiesInOneOf cs) b bs (lies_in_one b cs (each b (Contains-first b bs)))
    (all_lie bs cs (λ c at. each c (Contains-later b bs c at)))

among_itself : (b : Box) (bs : List Box) → Contains bs b → LiesAmong b bs
among_itself b [] at = Contains-none b at
among_itself b (c ∷ cs) at = grind (arith, among_itself b cs)

pub sides_inside : (b f : Box) → IsInside b f → Fits (box_sides b) (box_sides f)
sides_inside b f h = (omega (arith, h.0, h.2), omega (arith, h.1, h.3))

-- Right after a live box is freed, a free box has room for its sides.
pub freed_has_room : (size : Sides) (t : Tree) (s : ℕ → Bool) (g : Grant) → IsWellFormed size t
    → Contains (live size t) g
    → s g.id ≡ true
    → (f : Box) × Contains (free_boxes size (release s t)) f × IsInside g.box f × Fits (box_sides g.box) (box_sides f)
freed_has_room size t s g well at chosen = (room.0, room.1, room.2, sides_inside g.box room.0 room.2)
  where
    room : LiesInOneOf (free_boxes size (release s t)) g.box
    room =
        lies_in_one g.box (free_boxes size (release s t))
        (room-nf g.box t.axis origin (side (other t.axis) size) (mark s t.members)
        (cut-mark s (side (other t.axis) size) t.members well.cut)
        (room-mark s g.id g.box chosen t.axis origin (side (other t.axis) size) t.members (holds_from g (live size t) at)))

-- Each earlier free box lies in a free box after a freeing.
pub freed_keeps_room : (size : Sides) (s : ℕ → Bool) (t : Tree) (b : Box) → IsWellFormed size t
    → Contains (free_boxes size t) b → LiesInOneOf (free_boxes size (release s t)) b
freed_keeps_room size s t b well at =
    lies_in_one b (free_boxes size (release s t))
    (room-nf b t.axis origin (side (other t.axis) size) (mark s t.members) (cut-mark s (side (other t.axis) size) t.members well.cut)
    (room-mark-free s b t.axis origin (side (other t.axis) size) t.members (among_itself b (free_boxes size t) at)))

-- Each earlier free box lies in a free box after a growth.
pub grown_room : (old new : Sides) (t : Tree) → IsWellFormed old t → Fits old new
    → All (LiesInOneOf (free_boxes new (grown old new t))) (free_boxes old t)
grown_room old new t well fit = search (rules, all_lie, room-grown, among_itself)

pub grown_keeps : (old new : Sides) (t : Tree) → IsWellFormed old t → IsNormal t.members → Fits old new
    → IsGrown old new t
grown_keeps old new t well normal fit =
    let kept : IsWellFormed new (grown old new t) × IsNormal (grown old new t).members = grown_kept old new t well normal fit in
    record { well_formed = kept.0; normal = kept.1; live = live_grown old new t fit; free = grown_room old new t well fit }
