-- Who is left of a list of watchers after some events, and what each has heard.
use Rattle.std.proofs.Common.{◌≡◌, ◌∙◌, ℕ, ◌+◌, ◌-◌, ◌<◌, ◌≤◌, List, [], ◌∷◌, ◌++◌, length, length-append, inl, inr, Option, None, Some, refl, suc, sym, ap, subst, arith, append_assoc, append-nil}
use Rattle.std.specs.Prelude.{Bool, true, false, IfSome, ◌↔◌}
use Rattle.std.specs.Option.{option_map}
use Rattle.std.proofs.lemmas.Bool.{cases_Bool, cond-true, cond-false, false≢true}
use Rattle.stair_rack.specs.declared.watcher.Event.{Event}
use Rattle.stair_rack.specs.declared.watcher.EventKind.{EventKind}
use Rattle.stair_rack.specs.Watching.{RemainingQuota, WatcherView, Hears, IsPatient, count_of, is_kind, kind_of, less, less_of}
use Rattle.stair_watch.specs.WatcherList.{AllStay, AreLeft, EachHears, GoesOn, LeavesAmong, Tells, TellsAll, stayed}

count_of-append : (kind : EventKind) (a b : List Event) → count_of kind (a ++ b) ≡ count_of kind a + count_of kind b
count_of-append kind [] b = omega arith
count_of-append kind (e ∷ a) b =
    let here = is_kind kind (kind_of e) in
    elim (cases_Bool here) [
      | inl of ↦ omega (
        arith,
        count_of-append kind a b,
        cond-true here (count_of kind (a ++ b) + 1) (count_of kind (a ++ b)) of,
        cond-true here (count_of kind a + 1) (count_of kind a) of,
      )
      | inr other ↦ omega (
        arith,
        count_of-append kind a b,
        cond-false here (count_of kind (a ++ b) + 1) (count_of kind (a ++ b)) other,
        cond-false here (count_of kind a + 1) (count_of kind a) other,
      )
    ]

-- ---- remaining quota

patient_then : (a b : List Event) (p : RemainingQuota) → IsPatient a p → IsPatient b (less a p) → IsPatient (a ++ b) p
patient_then a b p first later = (omega (arith, first.0, later.0, length-append a b), kinds p.kind first.1 later.1)
  where
    kinds : (o : Option (EventKind × ℕ)) → IfSome o (λ k. count_of k.0 a < k.1) → IfSome (option_map (less_of a) o) (λ k. count_of k.0 b < k.1)
        → IfSome o (λ k. count_of k.0 (a ++ b) < k.1)
    kinds None first later = tt
    kinds (Some k) first later = omega (arith, first, later, count_of-append k.0 a b)

patient_after : (a b : List Event) (p : RemainingQuota) → IsPatient (a ++ b) p → IsPatient b (less a p)
patient_after a b p all = (omega (arith, all.0, length-append a b), kinds p.kind all.1)
  where
    kinds : (o : Option (EventKind × ℕ)) → IfSome o (λ k. count_of k.0 (a ++ b) < k.1)
        → IfSome (option_map (less_of a) o) (λ k. count_of k.0 b < k.1)
    kinds None all = tt
    kinds (Some k) all = omega (arith, all, count_of-append k.0 a b)

patient_before : (a b : List Event) (p : RemainingQuota) → IsPatient (a ++ b) p → IsPatient a p
patient_before a b p all = (omega (arith, all.0, length-append a b), kinds p.kind all.1)
  where
    kinds : (o : Option (EventKind × ℕ)) → IfSome o (λ k. count_of k.0 (a ++ b) < k.1) → IfSome o (λ k. count_of k.0 a < k.1)
    kinds None all = tt
    kinds (Some k) all = omega (arith, all, count_of-append k.0 a b)

less_none : (p : RemainingQuota) → less [] p ≡ p
less_none p = λ i. record { all = alls i; kind = kinds p.kind i }
  where
    alls : p.all - 0 ≡ p.all
    alls = omega arith

    kinds : (o : Option (EventKind × ℕ)) → option_map (less_of []) o ≡ o
    kinds None = refl
    kinds (Some k) = let same : k.1 - 0 ≡ k.1 = omega arith in λ i. Some (k.0, same i)

less_then : (a b : List Event) (p : RemainingQuota) → less b (less a p) ≡ less (a ++ b) p
less_then a b p = λ i. record { all = alls i; kind = kinds p.kind i }
  where
    alls : p.all - length a - length b ≡ p.all - length (a ++ b)
    alls = omega (arith, length-append a b)

    kinds : (o : Option (EventKind × ℕ))
        → option_map (less_of b) (option_map (less_of a) o) ≡ option_map (less_of (a ++ b)) o
    kinds None = refl
    kinds (Some k) =
        let same : k.1 - count_of k.0 a - count_of k.0 b ≡ k.1 - count_of k.0 (a ++ b) = omega (arith, count_of-append k.0 a b) in
        λ i. Some (k.0, same i)

-- ---- what was heard

list_then : (a b : List Event) (o p q : Option (List Event)) → p ≡ option_map (λ told. told ++ a) o → q ≡ option_map (λ told. told ++ b) p
    → q ≡ option_map (λ told. told ++ (a ++ b)) o
list_then a b None p q first later = later ∙ ap (option_map (λ told. told ++ b)) first
list_then a b (Some x) p q first later = later ∙ ap (option_map (λ told. told ++ b)) first ∙ ap Some (append_assoc x a b)

list_none : (o : Option (List Event)) → o ≡ option_map (λ told. told ++ []) o
list_none None = refl
list_none (Some x) = ap Some (sym (append-nil x))

waits_then : (a b : List Event) (o p q : Option RemainingQuota) → p ≡ option_map (less a) o → q ≡ option_map (less b) p
    → q ≡ option_map (less (a ++ b)) o
waits_then a b None p q first later = later ∙ ap (option_map (less b)) first
waits_then a b (Some x) p q first later = later ∙ ap (option_map (less b)) first ∙ ap Some (less_then a b x)

waits_none : (o : Option RemainingQuota) → o ≡ option_map (less []) o
waits_none None = refl
waits_none (Some p) = ap Some (sym (less_none p))

module _ {W : Type 0} (view : WatcherView W) where
  hears_then : (a b : List Event) (u v w : W) → Hears view a u v → Hears view b v w → Hears view (a ++ b) u w
  hears_then a b u v w first later = record {
    list = list_then a b (view u).told (view v).told (view w).told first.list later.list;
    counts = λ kind. omega (arith, first.counts kind, later.counts kind, count_of-append kind a b);
    waits = waits_then a b (view u).remaining_quota (view v).remaining_quota (view w).remaining_quota first.waits later.waits;
  }

  hears_none : (w : W) → Hears view [] w w
  hears_none w = record {
    list = list_none (view w).told;
    counts = λ kind. omega arith;
    waits = waits_none (view w).remaining_quota;
  }

  -- one event, and then others: of a watcher's remaining quota, as its own and as what is left of it
  goes_then : (event : Event) (events : List Event) (o p : Option RemainingQuota) → p ≡ option_map (less (event ∷ [])) o
      → GoesOn (event ∷ []) o → GoesOn events p → GoesOn (event ∷ events) o
  goes_then event [] o p is first later = first
  goes_then event (x ∷ events) None p is first later = tt
  goes_then event (x ∷ events) (Some q) p is first later =
      patient_then (event ∷ []) (x ∷ events) q first (subst (λ (r : Option RemainingQuota). IfSome r (IsPatient (x ∷ events))) is later)

  leaves_later : (event : Event) (events : List Event) (o p : Option RemainingQuota) → p ≡ option_map (less (event ∷ [])) o
      → LeavesAmong events p → LeavesAmong (event ∷ events) o
  leaves_later event [] o p is leaves = absurd leaves
  leaves_later event (x ∷ events) None p is leaves = tt
  leaves_later event (x ∷ events) (Some q) p is leaves =
      let out : ¬ IsPatient (x ∷ events) (less (event ∷ []) q) =
      subst (λ (r : Option RemainingQuota). IfSome r (λ y. ¬ IsPatient (x ∷ events) y)) is leaves in
      λ all. out (patient_after (event ∷ []) (x ∷ events) q all)

  leaves_sooner : (event : Event) (events : List Event) (o : Option RemainingQuota) → LeavesAmong (event ∷ []) o → LeavesAmong (event ∷ events) o
  leaves_sooner event events None leaves = tt
  leaves_sooner event events (Some q) leaves = λ all. leaves (patient_before (event ∷ []) events q all)

  -- ---- lists

  left_then : (event : Event) (events : List Event) (x y z : List W) → AreLeft view (event ∷ []) x y → AreLeft view events y z
      → AreLeft view (event ∷ events) x z
  left_then event events [] y z first later = subst (λ (l : List W). AreLeft view events l z) first later
  left_then event events (w ∷ x) y z (inr gone) later =
      inr (leaves_sooner event events (view w).remaining_quota gone.0, left_then event events x y z gone.1 later)
  left_then event events (w ∷ x) y z (inl stays) later =
      let v = stays.0 in
      let rest = stays.1 in
      let heard = stays.2 in
      elim (subst (λ (l : List W). AreLeft view events l z) stays.6 later) [
        | inl also ↦ inl (
          also.0,
          also.1,
          hears_then (event ∷ []) events w v also.0 heard also.2,
          also.3,
          goes_then event events (view w).remaining_quota (view v).remaining_quota heard.waits stays.4 also.4,
          left_then event events x rest also.1 stays.5 also.5,
          also.6,
        )
        | inr gone ↦ inr (
          leaves_later event events (view w).remaining_quota (view v).remaining_quota heard.waits gone.0,
          left_then event events x rest z stays.5 gone.1,
        )
      ]

  left_none : (list : List W) → AllStay view list → AreLeft view [] list list
  left_none [] still = refl
  left_none (w ∷ list) still = inl (w, list, hears_none w, still.0, tt, left_none list still.1, refl)

  -- one event
  one_told : (event : Event) (old heard : List W) → EachHears view event old heard → AreLeft view (event ∷ []) old (stayed view heard)
  one_told event [] heard each = subst (λ (l : List W). stayed view l ≡ []) (sym each) refl
  one_told event (w ∷ old) heard each =
      let later = each.0 in
      let rest = each.1 in
      let one = each.2 in
      let more = one_told event old rest each.3 in
      subst (λ (l : List W). AreLeft view (event ∷ []) (w ∷ old) (stayed view l)) (sym each.4)
      (elim (cases_Bool (view later).left) [
        | inl gone ↦
            subst (λ (l : List W). AreLeft view (event ∷ []) (w ∷ old) l)
            (sym (cond-true (view later).left (stayed view rest) (later ∷ stayed view rest) gone))
            (inr (spent (view w).remaining_quota gone one.leaves, more))
        | inr stays ↦
            subst (λ (l : List W). AreLeft view (event ∷ []) (w ∷ old) l)
            (sym (cond-false (view later).left (stayed view rest) (later ∷ stayed view rest) stays))
            (inl (later, stayed view rest, one.hears, stays, waiting (view w).remaining_quota stays one.leaves, more, refl))
      ])
    where
      spent : {left : Bool} (o : Option RemainingQuota) → left ≡ true → IfSome o (λ p. (left ≡ false) ↔ IsPatient (event ∷ []) p)
          → LeavesAmong (event ∷ []) o
      spent None gone leaves = tt
      spent (Some p) gone leaves = λ patient. false≢true (sym (leaves.1 patient) ∙ gone)

      waiting : {left : Bool} (o : Option RemainingQuota) → left ≡ false → IfSome o (λ p. (left ≡ false) ↔ IsPatient (event ∷ []) p)
          → GoesOn (event ∷ []) o
      waiting None stays leaves = tt
      waiting (Some p) stays leaves = leaves.0 stays

  stayed_stay : (list : List W) → AllStay view (stayed view list)
  stayed_stay [] = tt
  stayed_stay (w ∷ list) =
      elim (cases_Bool (view w).left) [
        | inl gone ↦ subst (λ (l : List W). AllStay view l) (sym (cond-true (view w).left (stayed view list) (w ∷ stayed view list) gone))
            (stayed_stay list)
        | inr stays ↦ subst (λ (l : List W). AllStay view l) (sym (cond-false (view w).left (stayed view list) (w ∷ stayed view list) stays))
            (stays, stayed_stay list)
      ]

  -- one that hasn't left, after the others
  pub AllStay-more : (list : List W) (w : W) → AllStay view list → (view w).left ≡ false → AllStay view (list ++ w ∷ [])
  AllStay-more [] w still stays = (stays, tt)
  AllStay-more (x ∷ list) w still stays = (still.0, AllStay-more list w still.1 stays)

  pub stay_after : (event : Event) (old new : List W) → Tells view event old new → AllStay view new
  stay_after event old new tells = subst (λ (l : List W). AllStay view l) (sym tells.left) (stayed_stay tells.heard)

  -- all events
  pub all_told : (events : List Event) (old new : List W) → AllStay view old → TellsAll view events old new → AreLeft view events old new
  all_told [] old new still tells = subst (λ (l : List W). AreLeft view [] old l) (sym tells) (left_none old still)
  all_told (event ∷ events) old new still tells =
      let mid = tells.0 in
      left_then event events old mid new
      (subst (λ (l : List W). AreLeft view (event ∷ []) old l) (sym tells.1.left) (one_told event old tells.1.heard tells.1.each))
      (all_told events mid new (stay_after event old mid tells.1) tells.2)

  pub stay_throughout : (events : List Event) (old new : List W) → AllStay view old → TellsAll view events old new → AllStay view new
  stay_throughout [] old new still tells = subst (λ (l : List W). AllStay view l) (sym tells) still
  stay_throughout (event ∷ events) old new still tells =
      stay_throughout events tells.0 new (stay_after event old tells.0 tells.1) tells.2

  pub told_then : (before after : List Event) (old mid new : List W) → TellsAll view before old mid → TellsAll view after mid new
      → TellsAll view (before ++ after) old new
  told_then [] after old mid new one two = subst (λ (l : List W). TellsAll view after l new) one two
  told_then (event ∷ before) after old mid new one two = (one.0, one.1, told_then before after one.0 mid new one.2 two)

  -- ---- how many are left

  length-stayed-le : (list : List W) → length (stayed view list) ≤ length list
  length-stayed-le [] = omega arith
  length-stayed-le (w ∷ list) = grind (arith, length-stayed-le list)

  stayed_all : (list : List W) → AllStay view list → stayed view list ≡ list
  stayed_all [] still = refl
  stayed_all (w ∷ list) still = cond-false (view w).left (stayed view list) (w ∷ stayed view list) still.0 ∙ ap (λ l. w ∷ l) (stayed_all list still.1)

  all_stayed : (list : List W) → length (stayed view list) ≡ length list → AllStay view list
  all_stayed [] same = tt
  all_stayed (w ∷ list) same =
      elim (cases_Bool (view w).left) [
        | inl gone ↦
            let none : ⊥ = omega (
              arith,
              same,
              length-stayed-le list,
              ap length (cond-true (view w).left (stayed view list) (w ∷ stayed view list) gone),
            ) in
            absurd none
        | inr stays ↦
            let fewer : length (stayed view list) ≡ length list = omega (
              arith,
              same,
              ap length (cond-false (view w).left (stayed view list) (w ∷ stayed view list) stays),
            ) in
            (stays, all_stayed list fewer)
      ]

  length-heard : (event : Event) (old heard : List W) → EachHears view event old heard → length heard ≡ length old
  length-heard event [] heard each = ap length each
  length-heard event (w ∷ old) heard each = ap length each.4 ∙ ap (λ (n : ℕ). suc n) (length-heard event old each.1 each.3)

  -- none comes
  pub no_more_told : (events : List Event) (old new : List W) → TellsAll view events old new → length new ≤ length old
  no_more_told [] old new tells = omega (arith, ap length tells)
  no_more_told (event ∷ events) old new tells =
      let one = tells.1 in
      omega (
        arith,
        no_more_told events tells.0 new tells.2,
        ap length one.left,
        length-stayed-le one.heard,
        length-heard event old one.heard one.each,
      )

  pub as_many : (event : Event) (old new : List W) (tells : Tells view event old new) → (length new ≡ length old) ↔ AllStay view tells.heard
  as_many event old new tells =
      let all = length-heard event old tells.heard tells.each in (
        λ same. all_stayed tells.heard (sym (ap length tells.left) ∙ same ∙ sym all),
        λ still. ap length (tells.left ∙ stayed_all tells.heard still) ∙ all,
      )
