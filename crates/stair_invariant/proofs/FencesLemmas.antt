-- What the contract of a fence says, and of slots that are left out, leads the record of a session on.
use Rattle.std.proofs.Common.{ℕ, ◌<◌, ◌∙◌, ◌≡◌, ◌≤◌, List, None, Option, Result, ap, arith, inl, inr, refl, subst, sym, Some}
use Rattle.std.specs.Prelude.{◌^◌, IsTrue, length, slice_index}
use Rattle.stair_model.specs.Geometry.{Geometry}
use Rattle.stair_model.specs.Slots.{HasSlot, Slots}
use Rattle.stair_rack.specs.Answers.{Ran, any_call, IsHistory}
use Rattle.stair_rack.specs.History.{Happening, stopped}
use Rattle.stair_rack.specs.Moments.{IsMoment}
use Rattle.stair_rack.specs.Stretch.{NothingReturned}
use Rattle.stair_rack.specs.RackState.{RackState}
use Rattle.stair_rack.proofs.MomentLemmas.{moment_between}
use Rattle.stair_rack.proofs.StretchLemmas.{each_after, each_before}
use Rattle.stair_super.specs.Label.{IsLabel}
use Rattle.stair_super.specs.Superblock.{IsConfiguration, mark_in}
use Rattle.stair_super.specs.declared.configuration.Configuration.{Configuration}
use Rattle.stair_member.specs.Aims.{admitted}
use Rattle.stair_member.specs.Epochs.{IsIssuing}
use Rattle.stair_member.specs.Establishing.{Establishes, Fences, Leaves, refusal_of}
use Rattle.stair_member.specs.Fencing.{HasStood, IsBegun}
use Rattle.stair_member.specs.Membership.{IsMarkedFor, IsMembership, Membership, why_of}
use Rattle.stair_member.specs.declared.aim.EpochChange.TheVariants.{Fence, Promote}
use Rattle.stair_member.specs.declared.fault.FenceFault.{FenceFault}
use Rattle.stair_member.specs.declared.why.Why.{Why}
use Rattle.stair_member.proofs.CountingLemmas.{has_or_not}
use Rattle.stair_member.proofs.LeavingLemmas.{left}
use Rattle.stair_state.specs.Blocks.{Codewords}
use Rattle.stair_invariant.specs.Effects.{Fenced, FencesGone, NoneWas, Snapshot, snapshot}
use Rattle.stair_invariant.specs.Leading.{IsOpenAmid, led_to}
use Rattle.stair_invariant.specs.Session.{ArrayState, IsOpenWith}
use Rattle.stair_invariant.proofs.LeftOutLemmas.{start_geometry, stood_by}
use Rattle.stair_invariant.proofs.OpenWithLemmas.{fenced_amid, goes_on_from, keeps_rebuilds, rebuilds_on, amid_of, amid_after, open_after}

-- the member that slots of its array left is one still
module _ (leaving : Slots) (m start : Membership) (leaves : Leaves leaving m start) (below : (j : ℕ) → HasSlot leaving j → j < m.array.geometry.n) where
  pub start_rules : IsMembership m → IsMembership start
  start_rules is = record {
    sizes = record {
      id = ap (λ (c : Configuration). length c.geometry.id) leaves.array ∙ is.sizes.id;
      drawn = subst (λ (n : ℕ). n < 2 ^ 64) (sym leaves.drawn) is.sizes.drawn;
      marks = ap (λ (c : Configuration). length c.marks) leaves.array ∙ is.sizes.marks;
      joins = ap (λ (c : Configuration). length c.joins) leaves.array ∙ is.sizes.joins;
      label = subst (λ (c : Configuration). IsLabel c.label) (sym leaves.array) is.sizes.label;
      whys = leaves.size ∙ is.sizes.whys;
      places = ap (λ (l : List ℕ). length l) leaves.places ∙ is.sizes.places;
    };
    array = subst IsConfiguration (sym leaves.array) is.array;
    known =
        subst (λ (c : Configuration). c.epoch ≤ start.drawn) (sym leaves.array) (subst (λ (n : ℕ). m.array.epoch ≤ n) (sym leaves.drawn) is.known);
    absent = λ j past small.
        let out : m.array.geometry.n ≤ j = subst (λ (g : Geometry). g.n ≤ j) (start_geometry leaving m start leaves) past in
        leaves.others j (λ has. let inside = below j has in omega (arith, out, inside)) ∙ is.absent j out small;
    marked = λ j inside. marked j (subst (λ (g : Geometry). j < g.n) (start_geometry leaving m start leaves) inside);
    places = λ j small. subst (λ (l : List ℕ). slice_index l j < 2) (sym leaves.places) (is.places j small);
  }
    where
      marked : (j : ℕ) → j < m.array.geometry.n → IsMarkedFor (why_of start j) (mark_in start.array j)
      marked j inside =
          subst (λ (c : Configuration). IsMarkedFor (why_of start j) (mark_in c j)) (sym leaves.array)
          (elim (has_or_not leaving j) [
            | inl has ↦ subst (λ (w : Why). IsMarkedFor w (mark_in m.array j)) (sym (leaves.left j has)) tt
            | inr out ↦ subst (λ (w : Why). IsMarkedFor w (mark_in m.array j)) (sym (leaves.others j out)) (is.marked j inside)
          ])

-- A FENCE THAT WAS DONE, on an honest rack

-- Whichever media come back the record is led on,
module _ (leaving : Slots) (before : List Happening) (a : ArrayState) (last : Membership) (answer : Result Slots FenceFault) (x y : RackState)
    (does : Fences leaving a.member last answer x y) (fine : refusal_of answer ≡ None) (honest : IsTrue y.honest) (history : IsHistory x.history) where
  pub establishes : Establishes Fence does.start last None x y
  establishes = subst (λ (r : Option FenceFault). Establishes Fence does.start last r x y) fine does.establishes

  geometry_kept : last.array.geometry ≡ a.member.array.geometry
  geometry_kept = establishes.geometry ∙ start_geometry leaving a.member does.start does.leaves

  no_join : (j : ℕ) → admitted Fence ≡ Some j → ⊥
  no_join j never = cc

  no_promotion : (j : ℕ) → Fence ≡ Promote j → ⊥
  no_promotion j never = cc

  pub amid_fenced : IsOpenAmid before a x.history → IsOpenAmid before (led_to a last) y.history
  amid_fenced is =
      amid_after Fence leaving establishes.gone before a (led_to a last) does.start x.history y.history is history does.leaves
      (λ j joins. absurd (no_join j joins)) (establishes.issued honest) establishes.rules (establishes.done refl) establishes.were_gone.dropped (establishes.on_disk honest refl)
      (λ j promotes. absurd (no_promotion j promotes)) (keeps_rebuilds a last is.array geometry_kept)

  pub open_fenced : (words : Codewords) → IsOpenWith before a words x.history → IsOpenWith before (led_to a last) words y.history
  open_fenced words is =
      open_after Fence leaving establishes.gone before a (led_to a last) does.start x.history y.history (amid_of before a words x.history is) history
      does.leaves (λ j joins. absurd (no_join j joins)) (establishes.issued honest) establishes.rules (establishes.done refl) establishes.were_gone.dropped
      (establishes.on_disk honest refl) (λ j promotes. absurd (no_promotion j promotes)) (keeps_rebuilds a last is.array geometry_kept) words is.live
      (λ j promotes. absurd (no_promotion j promotes)) is.rebuilt

-- and where none does the new epoch is the session's, too.
module _ (leaving : Slots) (before : List Happening) (a : ArrayState) (last : Membership) (answer : Result Slots FenceFault) (x y : RackState)
    (does : Fences leaving a.member last answer x y) (fine : refusal_of answer ≡ None) (honest : IsTrue y.honest)
    (below : (j : ℕ) → HasSlot leaving j → j < a.member.array.geometry.n) (begun : IsBegun None a.member x.history)
    (none : NothingReturned before y.history) (going : ¬ IsTrue (stopped y.history)) where
  abbrev established : Establishes Fence does.start last None x y
  established = establishes leaving before a last answer x y does fine honest begun.history

  -- the fence lies in the session
  at : Ran any_call before x.history → IsMoment before x.history y.history
  at ran =
      moment_between {a = any_call} {b = IsIssuing (established.issued honest).slots (established.issued honest).editions} ran
      (established.issued honest).ran

  stands : Ran any_call before x.history → HasStood Fence established.gone does.start last x.history y.history
  stands ran =
      stood_by Fence does.start last x y established honest
      (left None leaving a.member does.start does.leaves x.history (start_rules leaving a.member does.start does.leaves below begun.member) begun)
      (each_after none (at ran)) (λ slot never. absurd (cc))

  begun_fenced : IsOpenAmid before a x.history → IsBegun None last y.history
  begun_fenced is =
      (fenced_amid leaving established.gone before a (led_to a last) does.start x.history y.history (each_before none (at is.ran)) does.leaves
      (stands is.ran) going
      (keeps_rebuilds a last is.array (established.geometry ∙ start_geometry leaving a.member does.start does.leaves)) is).1

  pub fences_amid : IsOpenAmid before a x.history → IsOpenAmid before (led_to a last) y.history × IsBegun None last y.history
  fences_amid is = (amid_fenced leaving before a last answer x y does fine honest begun.history is, begun_fenced is)

  pub fences_open : (words : Codewords) → IsOpenWith before a words x.history
      → IsOpenWith before (led_to a last) words y.history × IsBegun None last y.history
  fences_open words is =
      (open_fenced leaving before a last answer x y does fine honest begun.history words is, begun_fenced (amid_of before a words x.history is))

-- SLOTS THAT ARE LEFT OUT

-- where nothing is done the array goes on as it was
pub stays_open : (before : List Happening) (a : ArrayState) (words : Codewords) (h : List Happening) → IsOpenWith before a words h
    → IsOpenWith before (led_to a a.member) words h
stays_open before a words h is =
    rebuilds_on before a (led_to a a.member) words h is refl
    (λ rebuild of.
    let was = (goes_on_from a.member a.rebuild rebuild of).0 in
    ((is.array.rebuilds rebuild was).0, ((is.array.rebuilds rebuild was).1, is.rebuilt rebuild was)))

stays_amid : (before : List Happening) (a : ArrayState) (h : List Happening) → IsOpenAmid before a h → IsOpenAmid before (led_to a a.member) h
stays_amid before a h is = record {
  array = record {
    member = is.array.member;
    marks = is.array.marks;
    enough = is.array.enough;
    rebuilds = λ rebuild of. is.array.rebuilds rebuild (goes_on_from a.member a.rebuild rebuild of).0;
  };
  ran = is.ran;
  held = is.held;
  own = is.own;
  shut = is.shut;
}

-- Whichever media come back the record is led on without them,
module _ (leaving : Slots) (before : List Happening) (a : ArrayState) (x : RackState) (y : Snapshot) (leaves : FencesGone leaving None (snapshot a.member x) y)
    (honest : IsTrue y.told.honest) (history : IsHistory x.history) where
  pub open_left : (words : Codewords) → IsOpenWith before a words x.history → IsOpenWith before (led_to a y.member) words y.told.history
  open_left words is = by leaves
    where
      by : FencesGone leaving None (snapshot a.member x) y → IsOpenWith before (led_to a y.member) words y.told.history
      by (NoneWas out same quiet) =
          subst (λ (p : Snapshot). IsOpenWith before (led_to a p.member) words p.told.history) (sym same) (stays_open before a words x.history is)
      by (Fenced j has answer fine does) = open_fenced leaving before a y.member answer x y.told does (sym fine) honest history words is

  pub amid_left : IsOpenAmid before a x.history → IsOpenAmid before (led_to a y.member) y.told.history
  amid_left is = by leaves
    where
      by : FencesGone leaving None (snapshot a.member x) y → IsOpenAmid before (led_to a y.member) y.told.history
      by (NoneWas out same quiet) =
          subst (λ (p : Snapshot). IsOpenAmid before (led_to a p.member) p.told.history) (sym same) (stays_amid before a x.history is)
      by (Fenced j has answer fine does) = amid_fenced leaving before a y.member answer x y.told does (sym fine) honest history is

-- and where none does the session has its epoch then.
module _ (leaving : Slots) (before : List Happening) (a : ArrayState) (x : RackState) (y : Snapshot) (leaves : FencesGone leaving None (snapshot a.member x) y)
    (honest : IsTrue y.told.honest) (below : (j : ℕ) → HasSlot leaving j → j < a.member.array.geometry.n)
    (begun : IsBegun None a.member x.history) (none : NothingReturned before y.told.history)
    (going : ¬ IsTrue (stopped y.told.history)) where
  pub leaves_open : (words : Codewords) → IsOpenWith before a words x.history
      → IsOpenWith before (led_to a y.member) words y.told.history × IsBegun None y.member y.told.history
  leaves_open words is = by leaves
    where
      by : FencesGone leaving None (snapshot a.member x) y
          → IsOpenWith before (led_to a y.member) words y.told.history × IsBegun None y.member y.told.history
      by (NoneWas out same quiet) =
          subst (λ (p : Snapshot). IsOpenWith before (led_to a p.member) words p.told.history × IsBegun None p.member p.told.history) (sym same)
          (stays_open before a words x.history is, begun)
      by (Fenced j has answer fine does) =
          fences_open leaving before a y.member answer x y.told does (sym fine) honest below begun none going words is

  pub leaves_amid : IsOpenAmid before a x.history → IsOpenAmid before (led_to a y.member) y.told.history × IsBegun None y.member y.told.history
  leaves_amid is = by leaves
    where
      by : FencesGone leaving None (snapshot a.member x) y
          → IsOpenAmid before (led_to a y.member) y.told.history × IsBegun None y.member y.told.history
      by (NoneWas out same quiet) =
          subst (λ (p : Snapshot). IsOpenAmid before (led_to a p.member) p.told.history × IsBegun None p.member p.told.history) (sym same)
          (stays_amid before a x.history is, begun)
      by (Fenced j has answer fine does) =
          fences_amid leaving before a y.member answer x y.told does (sym fine) honest below begun none going is
