-- A rack that represents an array before or after a change in doubt represents the one in which it is in doubt.
use Rattle.std.proofs.Common.{◌≡◌, ℕ, List, [], ◌∷◌, Bool, inl, inr, refl, sym, ap, ◌∙◌, subst, None, Option, Some}
use Rattle.std.specs.Prelude.{◌⊎◌}
use Rattle.stair_model.specs.Geometry.{Geometry, IsWithinLimits}
use Rattle.stair_rack.specs.History.{Happening, Made}
use Rattle.stair_rack.specs.Media.{Image}
use Rattle.stair_member.specs.Current.{IsLive}
use Rattle.stair_member.specs.Membership.{Membership}
use Rattle.stair_member.specs.Seats.{Seats}
use Rattle.stair_state.specs.Blocks.{AreEncodingsOf, Blocks, Codewords, with_blocks}
use Rattle.stair_state.specs.Forms.{CommittedNew, CommittedOld, HasForm, IdleNew, IdleOld, IsUncommitted, RepresentsBy, Uncommitted}
use Rattle.stair_state.specs.Redoing.{AtRest, Done, InPlace, Placing, Redoing, Stage}
use Rattle.stair_state.specs.Represents.{Encodings, HaveSeats, ImageRepresents, Represents, RepresentsAlone}
use Rattle.stair_state.specs.State.{BlocksAre, Change, Content, FrozenIs, LabelIs, State, changed_if, new_content}
use Rattle.stair_state.specs.Surveyed.{NamesContent}
use Rattle.stair_state.proofs.WordLemmas.{by_any_encodings}
use Rattle.stair_invariant.specs.Opening.{Across, After, AreBetween, Before}
use Rattle.stair_invariant.specs.UnderWay.{IsOfRedo, content_in, doubt_in}

-- FORMS

module _ (g : Geometry) (old new : Codewords) (live : ℕ → Type 0) (image : Image) where
  -- what was begun and changes nothing is idle
  idle_old : IsUncommitted g old old live image → HasForm g old new live image
  idle_old form = IdleOld (record { encodes = form.encodes; body = form.body })

  idle_new : IsUncommitted g new new live image → HasForm g old new live image
  idle_new form = IdleNew (record { encodes = form.encodes; body = form.body })

  from_old : HasForm g old old live image → HasForm g old new live image
  from_old (IdleOld form) = IdleOld form
  from_old (CommittedOld form) = CommittedOld form
  from_old (Uncommitted form) = idle_old form
  from_old (IdleNew form) = IdleOld form
  from_old (CommittedNew form) = CommittedOld form

  from_new : HasForm g new new live image → HasForm g old new live image
  from_new (IdleOld form) = IdleNew form
  from_new (CommittedOld form) = CommittedNew form
  from_new (Uncommitted form) = idle_new form
  from_new (IdleNew form) = IdleNew form
  from_new (CommittedNew form) = CommittedNew form

  pub widened_form : (first last : Codewords) → AreBetween old new first last → RepresentsBy g first last live image
      → RepresentsBy g old new live image
  widened_form first last between by = record { one_redo = by.one_redo; form = by_words between }
    where
      FormOf : Codewords → Codewords → Type 0
      FormOf x y = HasForm g x y live image

      by_words : AreBetween old new first last → HasForm g old new live image
      by_words (Before a b) = from_old (subst (λ (y : Codewords). FormOf old y) b (subst (λ (x : Codewords). FormOf x last) a by.form))
      by_words (Across a b) = subst (λ (y : Codewords). FormOf old y) b (subst (λ (x : Codewords). FormOf x last) a by.form)
      by_words (After a b) = from_new (subst (λ (y : Codewords). FormOf new y) b (subst (λ (x : Codewords). FormOf x last) a by.form))

-- STATES

-- one of two things
abbrev pub IsEither : {A : Type 0} → A → A → A → Type 0
IsEither a b x = (x ≡ a) ⊎ (x ≡ b)

-- What t holds, where its change in doubt was made and where it wasn't, s may hold.
pub record IsWithinDoubt (s t : State) (encodings : Encodings s) : Type 0 where
  pub geometry : t.geometry ≡ s.geometry
  pub seats : t.seats ≡ s.seats
  pub first : Codewords
  pub last : Codewords
  pub first_are : AreEncodingsOf s.geometry t.content.blocks first
  pub last_are : AreEncodingsOf s.geometry (new_content t).blocks last
  pub between : AreBetween encodings.old encodings.new first last
  pub frozen : IsEither s.content.frozen (new_content s).frozen t.content.frozen
  pub frozen_new : IsEither s.content.frozen (new_content s).frozen (new_content t).frozen
  pub label : IsEither s.content.label (new_content s).label t.content.label
  pub label_new : IsEither s.content.label (new_content s).label (new_content t).label

either : {A : Type 0} {a b x y z : A} → IsEither a b x → IsEither a b y → (z ≡ x) ⊎ (z ≡ y) → IsEither a b z
either first second (inl same) = elim first [ inl is ↦ inl (same ∙ is) | inr is ↦ inr (same ∙ is) ]
either first second (inr same) = elim second [ inl is ↦ inl (same ∙ is) | inr is ↦ inr (same ∙ is) ]

-- A rack that represents t represents s.
module _ (s t : State) (encodings : Encodings s) (h : List Happening) (within : IsWithinDoubt s t encodings) (limits : IsWithinLimits s.geometry)
    (stands : Represents t h) where
  -- t, of this array
  abbrev this : Geometry → State
  this g = record { geometry = g; content = t.content; in_doubt = t.in_doubt; seats = t.seats }

  here : Represents (this s.geometry) h
  here = subst (λ (g : Geometry). Represents (this g) h) within.geometry stands

  abbrev words : Encodings (this s.geometry)
  words = record { old = within.first; new = within.last; old_are = within.first_are; new_are = within.last_are }

  image_widened : (image : Image) → ImageRepresents (this s.geometry) words image → ImageRepresents s encodings image
  image_widened image is = record {
    identity = is.identity;
    current = is.current;
    is_current = is.is_current;
    full = is.full;
    form =
        widened_form s.geometry encodings.old encodings.new (IsLive s.geometry image is.current) image within.first within.last within.between is.form;
    rebuilding = is.rebuilding;
    frozen = either within.frozen within.frozen_new is.frozen;
    label = either within.label within.label_new is.label;
  }

  pub widened : Represents s h
  widened = record {
    encodings = encodings;
    each = λ image of.
        image_widened image (by_any_encodings (this s.geometry) here.encodings words image limits (here.each image of));
    orderly = here.orderly;
    shrinks = here.shrinks;
    seats = subst (λ (seats : Option Seats). HaveSeats seats s.geometry h) within.seats here.seats;
    steady = here.steady;
  }

-- A REDO WITHIN A DOUBT

-- A redo of an array with this content and change leads between the stripes of s, which may have the content's frozen mark and
-- label.
pub record IsOfDoubt (s : State) (encodings : Encodings s) (a : Redoing) (m : Membership) (content : Content) (change : Option Change) : Type 0
  where
    pub geometry : a.geometry ≡ s.geometry
    pub of : IsOfRedo a m content change
    pub between : AreBetween encodings.old encodings.new a.old a.new
    pub frozen : IsEither s.content.frozen (new_content s).frozen content.frozen
    pub label : IsEither s.content.label (new_content s).label content.label

module _ {old new first last : Codewords} where
  all_first : AreBetween old new first last → AreBetween old new first first
  all_first (Before a b) = Before a a
  all_first (Across a b) = Before a a
  all_first (After a b) = After a a

  all_last : AreBetween old new first last → AreBetween old new last last
  all_last (Before a b) = Before b b
  all_last (Across a b) = After b b
  all_last (After a b) = After b b

module _ (s : State) (encodings : Encodings s) (a : Redoing) (m : Membership) (content : Content) (change : Option Change)
    (is : IsOfDoubt s encodings a m content change) (seats : Option Seats) where
  -- the state, with these seats
  abbrev pub seated : State
  seated = record { geometry = s.geometry; content = s.content; in_doubt = s.in_doubt; seats = seats }

  abbrev words_seated : Encodings seated
  words_seated = record { old = encodings.old; new = encodings.new; old_are = encodings.old_are; new_are = encodings.new_are }

  abbrev staged : Stage → State
  staged stage = record { geometry = s.geometry; content = content_in stage content change; in_doubt = doubt_in stage change; seats = seats }

  old_are : AreEncodingsOf s.geometry content.blocks a.old
  old_are = subst (λ (g : Geometry). AreEncodingsOf g content.blocks a.old) is.geometry is.of.old_are

  new_are : AreEncodingsOf s.geometry (changed_if change content).blocks a.new
  new_are = subst (λ (g : Geometry). AreEncodingsOf g (changed_if change content).blocks a.new) is.geometry is.of.new_are

  frozen_changed : IsEither s.content.frozen (new_content s).frozen (changed_if change content).frozen
  frozen_changed = either is.frozen is.frozen (inl is.of.frozen_new)

  label_changed : IsEither s.content.label (new_content s).label (changed_if change content).label
  label_changed = either is.label is.label (inl is.of.label_new)

  not_made : IsWithinDoubt seated (staged AtRest) words_seated
  not_made = record {
    geometry = refl;
    seats = refl;
    first = a.old;
    last = a.old;
    first_are = old_are;
    last_are = old_are;
    between = all_first is.between;
    frozen = is.frozen;
    frozen_new = is.frozen;
    label = is.label;
    label_new = is.label;
  }

  in_doubt : IsWithinDoubt seated (staged Stage.Uncommitted) words_seated
  in_doubt = record {
    geometry = refl;
    seats = refl;
    first = a.old;
    last = a.new;
    first_are = old_are;
    last_are = new_are;
    between = is.between;
    frozen = is.frozen;
    frozen_new = frozen_changed;
    label = is.label;
    label_new = label_changed;
  }

  made : IsWithinDoubt seated (staged Done) words_seated
  made = record {
    geometry = refl;
    seats = refl;
    first = a.new;
    last = a.new;
    first_are = new_are;
    last_are = new_are;
    between = all_last is.between;
    frozen = frozen_changed;
    frozen_new = frozen_changed;
    label = label_changed;
    label_new = label_changed;
  }

  within_doubt : (stage : Stage) → IsWithinDoubt seated (staged stage) words_seated
  within_doubt AtRest = not_made
  within_doubt Stage.Uncommitted = in_doubt
  within_doubt Placing = made
  within_doubt InPlace = made
  within_doubt Done = made

  -- An image that represents the array before the redo or after it represents the state.
  pub doubt_stands : IsWithinLimits s.geometry → (stage : Stage) (image : Image) → RepresentsAlone (staged stage) image → RepresentsAlone seated image
  doubt_stands limits stage image stands =
      widened seated (staged stage) words_seated (Made image ∷ []) (within_doubt stage) limits stands

-- WHAT A RECOVERY IS OF

-- of the change in doubt what concerns blocks
block_change : Option Change → Option Change
block_change None = None
block_change (Some (BlocksAre first contents)) = Some (BlocksAre first contents)
block_change (Some (FrozenIs frozen)) = None
block_change (Some (LabelIs label)) = None

module _ (blocks : Blocks) (frozen : Bool) (label : List ℕ) where
  abbrev held : Content
  held = record { blocks = blocks; frozen = frozen; label = label }

  blocks_changed : (doubt : Option Change) (content : Content) → content.blocks ≡ blocks
      → (changed_if (block_change doubt) held).blocks ≡ (changed_if doubt content).blocks
  unfolding block_change
  blocks_changed None content same = sym same
  blocks_changed (Some (BlocksAre first contents)) content same = ap (λ (b : Blocks). with_blocks b first contents) (sym same)
  blocks_changed (Some (FrozenIs to)) content same = sym same
  blocks_changed (Some (LabelIs to)) content same = sym same

  frozen_stays : (doubt : Option Change) → (changed_if (block_change doubt) held).frozen ≡ frozen
  unfolding block_change
  frozen_stays None = refl
  frozen_stays (Some (BlocksAre first contents)) = refl
  frozen_stays (Some (FrozenIs to)) = refl
  frozen_stays (Some (LabelIs to)) = refl

  label_stays : (doubt : Option Change) → (changed_if (block_change doubt) held).label ≡ label
  unfolding block_change
  label_stays None = refl
  label_stays (Some (BlocksAre first contents)) = refl
  label_stays (Some (FrozenIs to)) = refl
  label_stays (Some (LabelIs to)) = refl

-- What the array holds in a recovery, and the change that its redo may make.
module _ (s : State) (encodings : Encodings s) (a : Redoing) (m : Membership) (geometry : a.geometry ≡ s.geometry) (names : NamesContent s m.array) where
  abbrev holding : Blocks → Content
  holding blocks = record { blocks = blocks; frozen = m.array.frozen; label = m.array.label }

  are : {blocks : Blocks} {words mine : Codewords} → mine ≡ words → AreEncodingsOf s.geometry blocks words → AreEncodingsOf a.geometry blocks mine
  are {blocks} {words} {mine} same is =
      subst (λ (g : Geometry). AreEncodingsOf g blocks mine) (sym geometry) (subst (AreEncodingsOf s.geometry blocks) (sym same) is)

  pub record Doubt : Type 0 where
    pub content : Content
    pub change : Option Change
    pub is : IsOfDoubt s encodings a m content change

  pub doubt_of : AreBetween encodings.old encodings.new a.old a.new → Doubt
  doubt_of (Before first last) = record {
    content = holding s.content.blocks;
    change = None;
    is = record {
      geometry = geometry;
      of = record {
        old_are = are first encodings.old_are;
        new_are = are last encodings.old_are;
        frozen = refl;
        label = refl;
        frozen_new = refl;
        label_new = refl;
      };
      between = Before first last;
      frozen = names.frozen;
      label = names.label;
    };
  }
  doubt_of (After first last) = record {
    content = holding (new_content s).blocks;
    change = None;
    is = record {
      geometry = geometry;
      of = record {
        old_are = are first encodings.new_are;
        new_are = are last encodings.new_are;
        frozen = refl;
        label = refl;
        frozen_new = refl;
        label_new = refl;
      };
      between = After first last;
      frozen = names.frozen;
      label = names.label;
    };
  }
  doubt_of (Across first last) = record {
    content = holding s.content.blocks;
    change = block_change s.in_doubt;
    is = record {
      geometry = geometry;
      of = record {
        old_are = are first encodings.old_are;
        new_are =
            subst (λ (b : Blocks). AreEncodingsOf a.geometry b a.new)
            (sym (blocks_changed s.content.blocks m.array.frozen m.array.label s.in_doubt s.content refl)) (are last encodings.new_are);
        frozen = refl;
        label = refl;
        frozen_new = frozen_stays s.content.blocks m.array.frozen m.array.label s.in_doubt;
        label_new = label_stays s.content.blocks m.array.frozen m.array.label s.in_doubt;
      };
      between = Across first last;
      frozen = names.frozen;
      label = names.label;
    };
  }
