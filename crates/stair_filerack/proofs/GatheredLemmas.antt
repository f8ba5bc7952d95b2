-- What is gathered of following sectors, and goes to their file.
use Rattle.std.proofs.Common.{◌≡◌, ℕ, ◌+◌, List, [], ◌∷◌, ◌++◌, length, Option, Some, ap, sym, ◌∙◌, subst, inl, inr, arith}
use Rattle.std.proofs.lemmas.List.{append_assoc, append-nil}
use Rattle.std.specs.Io.KnownBytes.{Appends}
use Rattle.std.proofs.KnownBytes.{Appends-nil, Appends-trans}
use Rattle.stair_image.specs.Seal.{sealed}
use Rattle.stair_filerack.specs.Files.{FindsSector, SyncsAll, WritesSector}
use Rattle.stair_filerack.specs.Gathered.{WritesFollowing, WroteFrom, all_sealed}
use Rattle.stair_filerack.specs.Slot.{HeldFile, OpenFile, ReadAhead, released}

module _ {T : Type 0} (place : T → Option ℕ) (held : T → Option (List ℕ)) where
  -- Of these bytes, the first went to the file from `found` on, and the others are pending. Nothing was read ahead since.
  pub record Gathers (found : T) (bytes : List ℕ) (ahead : ReadAhead) (next : ℕ) (now : HeldFile T) : Type 0 where
    pub gone : List ℕ
    pub went : Appends (held found) (held now.image.file) gone
    pub parts : gone ++ now.pending ≡ bytes
    pub ahead_is : now.image.ahead ≡ released ahead
    pub next_is : now.image.next ≡ Some next

  -- the first sector
  pub gathers_first : (sector : ℕ) (payload : List ℕ) (old new : HeldFile T) → old.pending ≡ [] → WritesSector place held sector payload old new
      → FindsSector place sector old.image new.image.file × Gathers new.image.file (sealed sector payload) old.image.ahead (sector + 1) new
  gathers_first sector payload old new none (before, (inl (gathered, same)), finds, pending, next, ahead) = (
    subst (λ (h : HeldFile T). FindsSector place sector h.image new.image.file) same finds,
    record {
      gone = [];
      went = Appends-nil (held new.image.file);
      parts = pending ∙ ap (λ (h : HeldFile T). h.pending ++ sealed sector payload) same ∙ ap (λ (l : List ℕ). l ++ sealed sector payload) none;
      ahead_is = ahead;
      next_is = next;
    },
  )
  gathers_first sector payload old new none (before, (inr (apart, (out, (put, is), image, empty))), finds, pending, next, ahead) = (
    subst (λ (f : T). FindsSector place sector (record old.image { file = f }) new.image.file) (is none)
        (subst (λ (i : OpenFile T). FindsSector place sector i new.image.file) image finds),
    record {
      gone = [];
      went = Appends-nil (held new.image.file);
      parts = pending ∙ ap (λ (l : List ℕ). l ++ sealed sector payload) empty;
      ahead_is = ahead;
      next_is = next;
    },
  )

  -- one sector more
  pub gathers_next : (found : T) (bytes payload : List ℕ) (at : ReadAhead) (sector : ℕ) (old new : HeldFile T)
      → Gathers found bytes at sector old → WritesSector place held sector payload old new
      → Gathers found (bytes ++ sealed sector payload) at (sector + 1) new
  gathers_next found bytes payload at sector old new so_far (before, (inl (gathered, same)), finds, pending, next, ahead) =
      let file : new.image.file ≡ old.image.file =
      finds.follows (ap (λ (h : HeldFile T). h.image.next) same ∙ so_far.next_is) ∙ ap (λ (h : HeldFile T). h.image.file) same in
      record {
        gone = so_far.gone;
        went = subst (λ (f : T). Appends (held found) (held f) so_far.gone) (sym file) so_far.went;
        parts = ap (λ (l : List ℕ). so_far.gone ++ l) (pending ∙ ap (λ (h : HeldFile T). h.pending ++ sealed sector payload) same)
            ∙ sym (append_assoc so_far.gone old.pending (sealed sector payload)) ∙ ap (λ (l : List ℕ). l ++ sealed sector payload) so_far.parts;
        ahead_is = ahead ∙ ap released so_far.ahead_is;
        next_is = next;
      }
  gathers_next found bytes payload at sector old new so_far (before, (inr (apart, (out, (put, is), image, empty))), finds, pending, next, ahead) =
      let file : new.image.file ≡ out =
      finds.follows (ap (λ (i : OpenFile T). i.next) image ∙ so_far.next_is) ∙ ap (λ (i : OpenFile T). i.file) image in
      record {
        gone = so_far.gone ++ old.pending;
        went = subst (λ (f : T). Appends (held found) (held f) (so_far.gone ++ old.pending)) (sym file)
            (Appends-trans (held found) (held old.image.file) (held out) so_far.gone old.pending so_far.went put);
        parts = ap (λ (l : List ℕ). (so_far.gone ++ old.pending) ++ l) (pending ∙ ap (λ (l : List ℕ). l ++ sealed sector payload) empty)
            ∙ ap (λ (l : List ℕ). l ++ sealed sector payload) so_far.parts;
        ahead_is = ahead ∙ ap released so_far.ahead_is;
        next_is = next;
      }

  -- all sectors of a list
  pub gathers_all : (found : T) (bytes : List ℕ) (at : ReadAhead) (sector : ℕ) (payloads : List (List ℕ)) (old new : HeldFile T)
      → Gathers found bytes at sector old → WritesFollowing place held sector payloads old new
      → Gathers found (bytes ++ all_sealed sector payloads) at (sector + length payloads) new
  gathers_all found bytes at sector [] old new so_far same =
      subst (λ (h : HeldFile T). Gathers found (bytes ++ []) at (sector + 0) h) (sym same)
      (subst (λ (l : List ℕ). Gathers found l at (sector + 0) old) (sym (append-nil bytes))
      (subst (λ (n : ℕ). Gathers found bytes at n old) (omega arith) so_far))
  gathers_all found bytes at sector (payload ∷ payloads) old new so_far (mid, writes, others) =
      let step = gathers_next found bytes payload at sector old mid so_far writes in
      subst (λ (n : ℕ). Gathers found (bytes ++ all_sealed sector (payload ∷ payloads)) at n new) (omega arith)
      (subst (λ (l : List ℕ). Gathers found l at (sector + 1 + length payloads) new)
      (append_assoc bytes (sealed sector payload) (all_sealed (sector + 1) payloads))
      (gathers_all found (bytes ++ sealed sector payload) at (sector + 1) payloads mid new step others))

  -- the sync
  pub gathers_sync : (found : T) (bytes : List ℕ) (sector count : ℕ) (old now new : HeldFile T) → FindsSector place sector old.image found
      → Gathers found bytes old.image.ahead (sector + count) now → SyncsAll held now new → WroteFrom place held sector count bytes old new
  gathers_sync found bytes sector count old now new finds all (out, (put, is), image, empty) = (
    found,
    finds,
    subst (λ (f : T). Appends (held found) (held f) bytes) (sym (ap (λ (i : OpenFile T). i.file) image))
        (subst (λ (l : List ℕ). Appends (held found) (held out) l) all.parts
        (Appends-trans (held found) (held now.image.file) (held out) all.gone now.pending all.went put)),
    ap (λ (i : OpenFile T). i.next) image ∙ all.next_is,
    ap (λ (i : OpenFile T). i.ahead) image ∙ ap released all.ahead_is,
    empty,
  )
