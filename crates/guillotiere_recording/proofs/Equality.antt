-- What `==` answers at rectangles and at change lists.
use Rattle.std.proofs.Common.{◌≡◌, ◌==◌, Bool, ◌&&◌, refl, ap}
use Rattle.std.specs.Bool.{Decides}
use Rattle.std.specs.Cmp.Lexicographic.{pointwise}
use Rattle.std.specs.Ordering.{int_eq}
use Rattle.std.proofs.lemmas.Bool.Decides.{Decides-and, Decides-like, Decides-eqb, Decides-int_eq}
use Rattle.std.proofs.lemmas.Slice.Eq.{slice_eq-Decides}
use Rattle.guillotiere.specs.declared.Point.{Point}
use Rattle.guillotiere.specs.declared.Rectangle.{Rectangle}
use Rattle.guillotiere.specs.declared.Allocation.{Allocation}
use Rattle.guillotiere.specs.declared.Change.{Change}
use Rattle.guillotiere_recording.specs.Events.{ListValue}

abbrev pub same_point : Point → Point → Bool
same_point p q = int_eq p.x q.x && int_eq p.y q.y

points_decide : (p q : Point) → Decides (same_point p q) (p ≡ q)
points_decide p q =
    Decides-like (same_point p q) (λ h. equal h.0 h.1) (λ h. (ap (λ (r : Point). r.x) h, ap (λ (r : Point). r.y) h))
    (Decides-and (int_eq p.x q.x) (int_eq p.y q.y) (Decides-int_eq p.x q.x) (Decides-int_eq p.y q.y))
  where
    equal : p.x ≡ q.x → p.y ≡ q.y → p ≡ q
    equal h k = λ i. record { x = h i; y = k i }

abbrev pub same_rectangle : Rectangle → Rectangle → Bool
same_rectangle a b = same_point a.min b.min && same_point a.max b.max

pub rectangles_decide : (a b : Rectangle) → Decides (same_rectangle a b) (a ≡ b)
rectangles_decide a b =
    Decides-like (same_rectangle a b) (λ h. equal h.0 h.1) (λ h. (ap (λ (r : Rectangle). r.min) h, ap (λ (r : Rectangle). r.max) h))
    (Decides-and (same_point a.min b.min) (same_point a.max b.max) (points_decide a.min b.min) (points_decide a.max b.max))
  where
    equal : a.min ≡ b.min → a.max ≡ b.max → a ≡ b
    equal h k = λ i. record { min = h i; max = k i }

abbrev pub same_allocation : Allocation → Allocation → Bool
same_allocation a b = (a.id == b.id) && same_rectangle a.rectangle b.rectangle

allocations_decide : (a b : Allocation) → Decides (same_allocation a b) (a ≡ b)
allocations_decide a b =
    Decides-like (same_allocation a b) (λ h. equal h.0 h.1)
    (λ h. (ap (λ (r : Allocation). r.id) h, ap (λ (r : Allocation). r.rectangle) h))
    (Decides-and (a.id == b.id) (same_rectangle a.rectangle b.rectangle) (Decides-eqb a.id b.id)
    (rectangles_decide a.rectangle b.rectangle))
  where
    equal : a.id ≡ b.id → a.rectangle ≡ b.rectangle → a ≡ b
    equal h k = λ i. record { id = h i; rectangle = k i }

abbrev pub same_change : Change → Change → Bool
same_change a b = same_allocation a.old b.old && same_allocation a.new b.new

changes_decide : (a b : Change) → Decides (same_change a b) (a ≡ b)
changes_decide a b =
    Decides-like (same_change a b) (λ h. equal h.0 h.1) (λ h. (ap (λ (r : Change). r.old) h, ap (λ (r : Change). r.new) h))
    (Decides-and (same_allocation a.old b.old) (same_allocation a.new b.new) (allocations_decide a.old b.old)
    (allocations_decide a.new b.new))
  where
    equal : a.old ≡ b.old → a.new ≡ b.new → a ≡ b
    equal h k = λ i. record { old = h i; new = k i }

abbrev pub same_list : ListValue → ListValue → Bool
same_list a b = pointwise same_change a.changes b.changes && pointwise same_allocation a.failures b.failures

pub lists_decide : (a b : ListValue) → Decides (same_list a b) (a ≡ b)
lists_decide a b =
    Decides-like (same_list a b) (λ h. equal h.0 h.1) (λ h. (ap (λ (r : ListValue). r.changes) h, ap (λ (r : ListValue). r.failures) h))
    (Decides-and (pointwise same_change a.changes b.changes) (pointwise same_allocation a.failures b.failures)
    (slice_eq-Decides {E = same_change} changes_decide a.changes b.changes (pointwise same_change a.changes b.changes) refl)
    (slice_eq-Decides {E = same_allocation} allocations_decide a.failures b.failures (pointwise same_allocation a.failures b.failures)
    refl))
  where
    equal : a.changes ≡ b.changes → a.failures ≡ b.failures → a ≡ b
    equal h k = λ i. record { changes = h i; failures = k i }
