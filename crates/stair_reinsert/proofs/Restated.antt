-- What a session knows of all media it knows still of a state with the same stripes, whose frozen mark and label what the epoch names has.
use Rattle.std.proofs.Common.{◌≡◌, ◌⊎◌, List, Option, sym, subst}
use Rattle.stair_rack.specs.Crash.{CrashMayLeave}
use Rattle.stair_rack.specs.History.{Happening}
use Rattle.stair_rack.specs.Media.{Image}
use Rattle.stair_super.specs.Superblock.{Superblock}
use Rattle.stair_member.specs.Membership.{Membership}
use Rattle.stair_state.specs.Blocks.{AreEncodingsOf, Blocks}
use Rattle.stair_state.specs.Holding.{IsBorneSince, IsConsistentBy}
use Rattle.stair_state.specs.Represents.{Encodings}
use Rattle.stair_state.specs.State.{Change, Content, State, changed_if, new_content}
use Rattle.stair_invariant.specs.Returning.{KnowsMedia, current_media_of}

module _ (s : State) (content : Content) (in_doubt : Option Change) (m : Membership) (h : List Happening) (knows : KnowsMedia s m h)
    (olds : content.blocks ≡ s.content.blocks) (news : (changed_if in_doubt content).blocks ≡ (new_content s).blocks)
    (frozen : (image : Image) → CrashMayLeave h image → (x : Superblock) → IsBorneSince s.geometry m.array.epoch image x
    → (x.array.frozen ≡ content.frozen) ⊎ (x.array.frozen ≡ (changed_if in_doubt content).frozen))
    (label : (image : Image) → CrashMayLeave h image → (x : Superblock) → IsBorneSince s.geometry m.array.epoch image x
    → (x.array.label ≡ content.label) ⊎ (x.array.label ≡ (changed_if in_doubt content).label)) where
  abbrev pub other : State
  other = record { geometry = s.geometry; content = content; in_doubt = in_doubt; seats = s.seats }

  abbrev encodings : Encodings other
  encodings = record {
    old = knows.is.encodings.old;
    new = knows.is.encodings.new;
    old_are = subst (λ (b : Blocks). AreEncodingsOf s.geometry b knows.is.encodings.old) (sym olds) knows.is.encodings.old_are;
    new_are = subst (λ (b : Blocks). AreEncodingsOf s.geometry b knows.is.encodings.new) (sym news) knows.is.encodings.new_are;
  }

  each : (image : Image) → CrashMayLeave h image → IsConsistentBy other encodings (current_media_of m) m.array.epoch image
  each image left =
      let it : IsConsistentBy s knows.is.encodings (current_media_of m) m.array.epoch image = knows.is.each image left in
      record {
        overtaken = it.overtaken;
        reserved = it.reserved;
        live = it.live;
        rebuilt = it.rebuilt;
        frozen = frozen image left;
        label = label image left;
        forms = it.forms;
        full = it.full;
        rebuilding = it.rebuilding;
        one_list = it.one_list;
        own_joined = it.own_joined;
      }

  pub restated : KnowsMedia other m h
  restated = record {
    known = knows.known;
    is = record { encodings = encodings; each = each; seats = knows.is.seats; steady = knows.is.steady };
    latest = knows.latest;
    own = knows.own;
    closed = knows.closed;
  }
