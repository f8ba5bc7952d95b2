-- What is taken of a message: its header, the bytes after it, and the end of the input.
use Rattle.std.proofs.Common.{◌≡◌, ◌∙◌, ℕ, zero, suc, ◌+◌, ◌-◌, ◌<◌, ◌≤◌, Err, List, [], ◌∷◌, ◌++◌, Ok, OnOk, Result, length, length-append, length-drop, drop, false, le_refl, take, refl, sym, ap, ap₂, subst, arith}
use Rattle.std.proofs.lemmas.List.{length-take, length-take-le, take_all}
use Rattle.std.proofs.lemmas.Bool.{ltb-false}
use Rattle.std.proofs.lemmas.Slice.{between-put_mid}
use borrow.Rule.Slice.PartMut.{put_mid}
use Rattle.stair_model.specs.Stripe.{SECTOR}
use Rattle.stair_command.specs.declared.streams.Filled.TheVariants.{Enough, Failed, Short}
use Rattle.stair_status.specs.declared.status.Status.TheVariants.{BadMessage, Done, Input, InputFault}
use Rattle.stair_command.specs.Executes.{Gives}
use Rattle.stair_command.specs.Outside.{SourceView}
use Rattle.stair_command.specs.Program.{Program, Over, take_exactly}
use Rattle.stair_command.specs.Trace.{TakeFailed, Took, TookLast}
use Rattle.stair_command.specs.Streams.{FillGives}
use Rattle.stair_command.specs.Taking.{TookSoFar}
use Rattle.stair_command.specs.Talks.{TakesTo}
use Rattle.stair_command.proofs.IntakeLaws.{Gives-failed, Gives-last, Gives-took, TookSoFar-more, TookSoFar-none, TookSoFar-took, are_all}
use Rattle.stair_command.proofs.TalkLaws.{takes_none, takes_one}
use Rattle.stair_nbd.specs.Client.{DATA_LIMIT, ends_in_header, is_too_long, skipped, takes_data, takes_header}
use Rattle.stair_nbd.specs.Sessions.{BLOCKS, IsKept, TakesData, after_data}
use Rattle.stair_nbd.specs.Wire.{REQUEST_LENGTH, data_length, data_length_of}
use Rattle.stair_nbd.specs.declared.fault.NbdFault.{NbdFault}
use Rattle.stair_nbd.specs.declared.wire.Command.{Command}
use Rattle.stair_nbd.specs.declared.wire.Command.TheVariants as command
use Rattle.stair_nbd.specs.declared.wire.Request.{Request}

-- ---- exactly so many bytes

module _ {S : Type 0} (view : SourceView S) (n : ℕ) (k short : List ℕ → Program) (a b : S) (into : List ℕ) where
  -- all of them came
  pub took_all : (count : ℕ) → length into ≡ n → FillGives view n (Enough count) into a b → TakesTo view (take_exactly n k short) (k into) a b
  took_all count long gives =
      let whole : take count into ≡ into = take_all count into (omega (arith, long, gives.0)) in
      takes_one view (Took into) (take_exactly n k short) (k into) a b tt (are_all n into long, refl)
      (subst (λ (bytes : List ℕ). Gives view (Took bytes) a b) whole gives.2)

  -- fewer came, and then the end
  pub took_part : (count : ℕ) → FillGives view n (Short count) into a b → TakesTo view (take_exactly n k short) (short (take count into)) a b
  took_part count gives =
      let few : length (take count into) < n = omega (arith, gives.0, length-take count into) in
      takes_one view (TookLast (take count into)) (take_exactly n k short) (short (take count into)) a b tt (few, refl) gives.1

  -- the source failed before
  pub took_none : FillGives view n Failed into a b → TakesTo view (take_exactly n k short) (Over InputFault) a b
  took_none gives = takes_one view (TakeFailed gives.0) (take_exactly n k short) (Over InputFault) a b tt (gives.1, refl) gives.2

-- ---- a header

-- the end came within it
header_cut : (n count : ℕ) (bytes : List ℕ) → length bytes ≡ count → (count ≡ 0 → ⊥) → ends_in_header n bytes ≡ Over (Input n count)
header_cut n count [] long some = absurd (some (sym long))
header_cut n count (byte ∷ bytes) long some = ap (λ (m : ℕ). Over (Input n m)) long

module _ {S : Type 0} (view : SourceView S) (n : ℕ) (k : List ℕ → Program) (a b : S) (into : List ℕ) where
  -- the end came before it
  pub header_none : (count : ℕ) → count ≡ 0 → FillGives view n (Short count) into a b → TakesTo view (takes_header n k) (Over Done) a b
  header_none count none gives =
      subst (λ (bytes : List ℕ). TakesTo view (takes_header n k) (ends_in_header n bytes) a b) (ap (λ (m : ℕ). take m into) none)
      (took_part view n k (ends_in_header n) a b into count gives)

  -- or within it
  pub header_short : (count : ℕ) → length into ≡ n → (count ≡ 0 → ⊥) → FillGives view n (Short count) into a b
      → TakesTo view (takes_header n k) (Over (Input n count)) a b
  header_short count long some gives =
      let within : count ≤ length into = omega (arith, gives.0, long) in
      subst (λ (rest : Program). TakesTo view (takes_header n k) rest a b) (header_cut n count (take count into) (length-take-le count into within) some)
      (took_part view n k (ends_in_header n) a b into count gives)

-- ---- the bytes after it

-- where the end came within them
abbrev data_cut : (header n : ℕ) → List ℕ → Program
data_cut header n bytes = Over (Input (header + n) (header + length bytes))

takes_some : (header n : ℕ) (k : List ℕ → Program) → 0 < n → takes_data header n k ≡ take_exactly n k (data_cut header n)
takes_some header zero k some = absurd (omega (arith, some))
takes_some header (suc n) k some = refl

module _ {S : Type 0} (view : SourceView S) (header n : ℕ) (k : List ℕ → Program) (a b : S) (some : 0 < n) where
  -- what holds for exactly so many bytes
  of_some : (rest : Program) → TakesTo view (take_exactly n k (data_cut header n)) rest a b → TakesTo view (takes_data header n k) rest a b
  of_some rest = subst (λ (program : Program). TakesTo view program rest a b) (sym (takes_some header n k some))

  module _ (into : List ℕ) where
    -- all came
    pub data_all : (count : ℕ) → length into ≡ n → FillGives view n (Enough count) into a b → TakesTo view (takes_data header n k) (k into) a b
    data_all count long gives = of_some (k into) (took_all view n k (data_cut header n) a b into count long gives)

    -- fewer came, and then the end
    pub data_short : (count : ℕ) → length into ≡ n → FillGives view n (Short count) into a b
        → TakesTo view (takes_data header n k) (Over (Input (header + n) (header + count))) a b
    data_short count long gives =
        let many : length (take count into) ≡ count = length-take-le count into (omega (arith, gives.0, long)) in
        of_some (Over (Input (header + n) (header + count)))
        (subst (λ (m : ℕ). TakesTo view (take_exactly n k (data_cut header n)) (Over (Input (header + n) (header + m))) a b) many
        (took_part view n k (data_cut header n) a b into count gives))

    -- the source failed
    pub data_failed : FillGives view n Failed into a b → TakesTo view (takes_data header n k) (Over InputFault) a b
    data_failed gives = of_some (Over InputFault) (took_none view n k (data_cut header n) a b into gives)

-- ---- the same, piece by piece

-- So many bytes were taken and dropped.
pub record DroppedSoFar {S : Type 0} (view : SourceView S) (dropped : ℕ) (old new : S) : Type 0 where
  pub bytes : List ℕ
  pub many : length bytes ≡ dropped
  pub taken : TookSoFar view bytes old new
  pub still : dropped ≡ 0 → new ≡ old

module _ {S : Type 0} (view : SourceView S) (a : S) where
  pub dropped_none : DroppedSoFar view 0 a a
  dropped_none = record { bytes = []; many = refl; taken = TookSoFar-none view a; still = λ none. refl }

  module _ (header n dropped : ℕ) (b : S) (so_far : DroppedSoFar view dropped a b) where
    -- these were all
    pub dropped_all : n ≡ dropped → (bytes : List ℕ) × ((k : List ℕ → Program) → TakesTo view (takes_data header n k) (k bytes) a b)
    dropped_all all = by_length n all
      where
        by_length : (m : ℕ) → m ≡ dropped → (bytes : List ℕ) × ((k : List ℕ → Program) → TakesTo view (takes_data header m k) (k bytes) a b)
        by_length zero all =
            ([], λ k. subst (λ (s : S). TakesTo view (k []) (k []) a s) (sym (so_far.still (sym all))) (takes_none view (k []) a))
        by_length (suc m) all =
            let long : length so_far.bytes ≡ suc m = omega (arith, all, so_far.many) in (
              so_far.bytes,
              λ k. takes_one view (Took so_far.bytes) (takes_data header (suc m) k) (k so_far.bytes) a b tt
                  (are_all (suc m) so_far.bytes long, refl) (Gives-took view so_far.bytes a b (omega (arith, long)) so_far.taken),
            )

    module _ (least : ℕ) (c : S) (into : List ℕ) where
      -- and some more
      pub dropped_more : (more : ℕ) → 0 < least → FillGives view least (Enough more) into b c → DroppedSoFar view (dropped + more) a c
      dropped_more more some gives = record {
        bytes = so_far.bytes ++ take more into;
        many = omega (arith, length-append so_far.bytes (take more into), length-take-le more into gives.1, so_far.many);
        taken = TookSoFar-more view so_far.bytes (take more into) a b c so_far.taken (TookSoFar-took view (take more into) b c gives.2);
        still = λ none. absurd (omega (arith, none, some, gives.0));
      }

      -- and fewer of the next ones, and then the end
      pub dropped_short : (k : List ℕ → Program) (more : ℕ) → dropped + least ≤ n → length into ≡ least → FillGives view least (Short more) into b c
          → TakesTo view (takes_data header n k) (Over (Input (header + n) (header + dropped + more))) a c
      dropped_short k more within long gives =
          let bytes = so_far.bytes ++ take more into in
          let many : length bytes ≡ dropped + more =
          omega (arith, length-append so_far.bytes (take more into), length-take-le more into (omega (arith, gives.0, long)), so_far.many) in
          let few : length bytes < n = omega (arith, many, gives.0, within) in
          let took : header + length bytes ≡ header + dropped + more = omega (arith, many) in
          of_some view header n k a c (omega (arith, few)) (Over (Input (header + n) (header + dropped + more)))
          (takes_one view (TookLast bytes) (take_exactly n k (data_cut header n)) (Over (Input (header + n) (header + dropped + more))) a c tt
          (few, ap (λ (m : ℕ). Over (Input (header + n) m)) (sym took))
          (Gives-last view so_far.bytes (take more into) a b c so_far.taken gives.1))

      -- and then the source failed
      pub dropped_failed : (k : List ℕ → Program) → dropped + least ≤ n → FillGives view least Failed into b c → TakesTo view (takes_data header n k) (Over InputFault) a c
      dropped_failed k within gives =
          let bytes = so_far.bytes ++ gives.0 in
          let few : length bytes < n = omega (arith, length-append so_far.bytes gives.0, gives.1, within, so_far.many) in
          of_some view header n k a c (omega (arith, few)) (Over InputFault)
          (takes_one view (TakeFailed bytes) (take_exactly n k (data_cut header n)) (Over InputFault) a c tt (few, refl)
          (Gives-failed view so_far.bytes gives.0 a b c so_far.taken gives.2))

-- ---- what comes after a request's header

-- there are no more of them than the request has bytes
data_few : (kind : Command) (count : ℕ) → data_length_of kind count ≤ count
data_few command.Write count = le_refl count
data_few command.Read count = omega arith
data_few command.Disconnect count = omega arith
data_few command.Flush count = omega arith
data_few command.Other count = omega arith

-- so the buffer has room for them, after what the first block keeps
pub data_fits : (q : Request) (start count room : ℕ) → is_too_long q ≡ false → start < SECTOR → count ≡ data_length q → room ≡ BLOCKS → start + count ≤ room
data_fits q start count room short within many all = omega (arith, ltb-false DATA_LIMIT q.length short, data_few q.command q.length, within, many, all)

-- a fact that doesn't depend on the result
on_done : (result : Result (Unit {0}) NbdFault) (P : Type 0) → P → OnOk result P
on_done (Ok done) P fact = fact
on_done (Err why) P fact = tt

-- The bytes were taken to their place in the buffer.
pub request_kept : {S : Type 0} (view : SourceView S) (size : ℕ) (q : Request) (result : Result (Unit {0}) NbdFault) (start count : ℕ) (buffer into : List ℕ)
    (a b : S) → start ≡ skipped q → count ≡ data_length q → start + count ≤ length buffer
    → length into ≡ length (take (start + count - start) (drop start buffer))
    → ((k : List ℕ → Program) → TakesTo view (takes_data REQUEST_LENGTH (length (take (start + count - start) (drop start buffer))) k) (after_data result into k) a b)
    → TakesData view size q result (put_mid start (start + count - start) buffer into) a b
request_kept view size q result start count buffer into a b from many room long takes =
    let all : length (take (start + count - start) (drop start buffer)) ≡ data_length q =
    omega (arith, length-take (start + count - start) (drop start buffer), length-drop start buffer, room, many) in
    let whole : start + count - start ≡ data_length q = omega (arith, many) in
    let there : take (start + count - start) (drop start (put_mid start (start + count - start) buffer into)) ≡ into =
    between-put_mid start (start + count - start) buffer into (start + count) (omega (arith, room)) (omega (arith, long, all, many)) in
    record {
      bytes = into;
      kept =
          on_done result (IsKept size q (data_length q) into (put_mid start (start + count - start) buffer into))
          (λ short inside. sym there ∙ ap₂ (λ (m n : ℕ). take m (drop n (put_mid start (start + count - start) buffer into))) whole from);
      takes = λ k. subst (λ (n : ℕ). TakesTo view (takes_data REQUEST_LENGTH n k) (after_data result into k) a b) all (takes k);
    }
