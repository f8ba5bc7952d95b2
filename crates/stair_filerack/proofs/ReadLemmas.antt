-- A sector that is held, and one that is read alone.
use Rattle.std.proofs.Common.{rules, ◌≡◌, ◌⊎◌, ℕ, List, Option, None, Some, Result, Ok, Err, OnErr, IfOk, subst, ap, ◌∙◌, sym, refl, inl, inr}
use Rattle.std.specs.Prelude.{MatchOption}
use Rattle.std.specs.Option.{SomeIff}
use Rattle.std.specs.declared.io.Error.{Error}
use Rattle.stair_rack.specs.declared.rack.Got.{Got}
use Rattle.stair_rack.specs.declared.rack.Got.TheVariants as got
use Rattle.stair_image.specs.Seal.{IsSealed, payload_in, sealed}
use Rattle.stair_image.proofs.SealLemmas.{sealed-payload_in}
use Rattle.stair_filerack.specs.Files.{FailsToRead, GivesHeld, GivesSector, GivesUnsealed, GoesAlone, LacksSector, HoldsSector, IsGotOf, ReadsAlone, ReadsBadSector, ReadsNoSector, ReadsSector, buffer_after}
use Rattle.stair_filerack.specs.Slot.{OpenFile, ReadAhead}

module _ {T : Type 0} (place : T → Option ℕ) (left : T → Option (List ℕ)) (sector : ℕ) (old : OpenFile T) where
  -- what a read of a sector gives: none, or a payload
  abbrev pub Gives : OpenFile T → Option (List ℕ) → Type 0
  Gives new found =
      MatchOption found (GivesUnsealed left sector old new ⊎ GoesAlone left sector (ReadsNoSector place left sector) old new) (λ payload. ReadsSector place left sector payload old new)

  -- of one with these bytes that was held
  by_verdict : (file : T) (next : Option ℕ) (ahead' : ReadAhead) (found : Option (List ℕ)) (bytes : List ℕ)
      → GivesHeld left sector bytes old (record { file = file; next = next; ahead = ahead' }) → SomeIff found (IsSealed sector bytes) (payload_in bytes)
      → Gives (record { file = file; next = next; ahead = ahead' }) found
  by_verdict file next ahead' None bytes its unsealed = inl (bytes, its, unsealed)
  by_verdict file next ahead' (Some payload) bytes its unsealed =
      let its_bytes : bytes ≡ sealed sector payload = sealed-payload_in sector bytes unsealed.0 ∙ ap (sealed sector) (sym unsealed.1) in
      inl (subst (λ (bs : List ℕ). GivesHeld left sector bs old (record { file = file; next = next; ahead = ahead' })) its_bytes its)

  -- of one that is held
  pub held_gives : (file : T) (next : Option ℕ) (ahead ahead' : ReadAhead) (held : OpenFile T) (found : Option (List ℕ)) (bytes : List ℕ) (number : ℕ)
      → record { file = file; next = next; ahead = ahead } ≡ held → HoldsSector left sector old held → number ≡ sector
      → GivesSector number bytes ahead ahead' → SomeIff found (IsSealed number bytes) (payload_in bytes)
      → Gives (record { file = file; next = next; ahead = ahead' }) found
  held_gives file next ahead ahead' held found bytes number parts holds is takes unsealed =
      let its : GivesHeld left sector bytes old (record { file = file; next = next; ahead = ahead' }) = (
        record { file = file; next = next; ahead = ahead },
        subst (HoldsSector left sector old) (sym parts) holds,
        subst (λ (n : ℕ). GivesSector n bytes ahead ahead') is takes,
        refl,
        refl,
      ) in
      by_verdict file next ahead' found bytes its (subst (λ (n : ℕ). SomeIff found (IsSealed n bytes) (payload_in bytes)) is unsealed)

  -- of one that is read alone
  pub alone_gives : (alone new : OpenFile T) (found : Option (List ℕ)) → LacksSector left sector old alone
      → MatchOption found (ReadsNoSector place left sector alone new) (λ payload. ReadsAlone place left sector payload alone new) → Gives new found
  alone_gives alone new None none reads = inr (alone, none, reads)
  alone_gives alone new (Some payload) none reads = inr (alone, none, reads)

  -- what a bad sector was
  pub bad_reads : (new : OpenFile T) → (GivesUnsealed left sector old new ⊎ GoesAlone left sector (ReadsNoSector place left sector) old new) ⊎ GoesAlone left sector (FailsToRead place left sector) old new
      → ReadsBadSector place left sector old new
  bad_reads new (inl (inl its)) = inl its
  bad_reads new (inl (inr (alone, none, reads))) = inr (alone, none, inl reads)
  bad_reads new (inr (alone, none, fails)) = inr (alone, none, inr fails)

-- an answer is good only by a payload, which the buffer then holds
pub good_read : (outcome : Result (Option (List ℕ)) Error) (answer : Got) (before buffer : List ℕ) (A : Type 0) (P : List ℕ → Type 0)
    → IfOk outcome (λ found. MatchOption found A P) → IsGotOf outcome answer → buffer ≡ buffer_after outcome before → answer ≡ got.Good → P buffer
good_read (Ok (Some payload)) answer before buffer A P ok is its_buffer good = subst P (sym its_buffer) ok
good_read (Ok None) answer before buffer A P ok is its_buffer good = absurd (search rules)
good_read (Err error) answer before buffer A P ok is its_buffer good = absurd (search rules)

-- an answer is bad only by no payload, or by an error
pub bad_read : (outcome : Result (Option (List ℕ)) Error) (answer : Got) (A F : Type 0) (P : List ℕ → Type 0)
    → IfOk outcome (λ found. MatchOption found A P) → OnErr outcome F → IsGotOf outcome answer → answer ≡ got.Bad → A ⊎ F
bad_read (Ok (Some payload)) answer A F P ok failed is bad = absurd (search rules)
bad_read (Ok None) answer A F P ok failed is bad = inl ok
bad_read (Err error) answer A F P ok failed is bad = inr failed
