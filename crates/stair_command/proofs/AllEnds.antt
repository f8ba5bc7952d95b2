-- Every end that a program comes to: a fact of it is shown along the program alone, whatever the outside gives, and holds then of each
-- call that means the program.
use Rattle.std.proofs.Common.{◌≡◌, ℕ, Bool, ◌<◌, List, [], ◌∷◌, Ok, Err, length, refl, sym, subst}
use Rattle.stair_array.specs.Machine.{Answer, Chunk, Dropped, Nothing, Progress, Promoted, Refusal}
use Rattle.stair_status.specs.declared.status.Status.{Status}
use Rattle.stair_status.specs.declared.status.Status.TheVariants.{InputFault, OutputFault, OutOfMemory}
use Rattle.stair_command.specs.Action.{Action, OkOf, Outcome, RefusalOf, refused}
use Rattle.stair_command.specs.Ending.{EndsIn}
use Rattle.stair_command.specs.Executes.{Counts, Gives, Holds, Executes}
use Rattle.stair_command.specs.Outside.{Outside, Views, outside}
use Rattle.stair_command.specs.Program.{Program, Over, Ask, Take, Put, Allocate, Do, Try, RebuildAll, after_rebuild}
use Rattle.stair_command.specs.Question.{IsReply, Reply}
use Rattle.stair_command.specs.Rack.{ExecutesOver, RackView, Works}
use Rattle.stair_command.specs.Refused.{status_of_refusal}
use Rattle.stair_command.specs.Trace.{AreEnough, TraceItem, Found, Took, TookLast, TakeFailed, HasPut, PutFailed, Grew, RanOut, Did, Stepped, IsPart, AlongTrace, StepsProgram, after}
use Rattle.std.specs.Prelude.{Result}
use Rattle.stair_command.proofs.EndLaws.{same_outside}
use Rattle.stair_command.proofs.RackLaws.{IsOffDevices, works_still}

-- Of a thread of devices, whatever it is, on which this is what an item does.
module _ {X S K : Type 0} (One : TraceItem → X → X → Type 0) (view : Views S K) (Q : Status → Outside S K → X → Type 0) where
  -- From here on the program comes to no end but such a one. Of a rebuild nothing is said but that it ends.
  abbrev pub AllEnd : Program → Outside S K → X → Type 0
  AllEnd (Over status) a x = Q status a x
  AllEnd (Ask question k) a x = (reply : Reply question) (n : ℕ) → IsReply question reply → Counts (Found question) a.counter n
      → AllEnd (k reply) (outside a.source a.sink n) x
  AllEnd (Take least most k short) a x =
      ((bytes : List ℕ) (s : S) → AreEnough least most bytes → Gives view.source (Took bytes) a.source s
      → AllEnd (k bytes) (outside s a.sink a.counter) x)
      × ((bytes : List ℕ) (s : S) → length bytes < least → Gives view.source (TookLast bytes) a.source s
      → AllEnd (short bytes) (outside s a.sink a.counter) x)
      × ((bytes : List ℕ) (s : S) → length bytes < least → Gives view.source (TakeFailed bytes) a.source s
      → Q InputFault (outside s a.sink a.counter) x)
  AllEnd (Put bytes program) a x =
      ((s : K) → Holds view.sink (HasPut bytes) a.sink s → AllEnd program (outside a.source s a.counter) x)
      × ((part : List ℕ) (s : K) → IsPart part bytes → Holds view.sink (PutFailed part) a.sink s → Q OutputFault (outside a.source s a.counter) x)
  AllEnd (Allocate program) a x = AllEnd program a x × Q OutOfMemory a x
  AllEnd (Do action k) a x =
      ((done : OkOf action) (y : X) → One (Did action (Ok done)) x y → AllEnd (k done) a y)
      × ((refusal : RefusalOf action) (y : X) → One (Did action (Err refusal)) x y → Q (refused action refusal) a y)
  AllEnd (Try step k) a x = (answer : Answer step) (left : Bool) (y : X) → AllEnd (k answer left) a y
  AllEnd (RebuildAll slots done k) a x = ((count : ℕ) (y : X) → AllEnd (k count) a y)
      × ((refusal : Refusal) (y : X) → Q (status_of_refusal slots refusal) a y)

  did_all : (action : Action) (k : OkOf action → Program) (outcome : Outcome action) (a : Outside S K) (x y : X) → One (Did action outcome) x y
      → AllEnd (Do action k) a x → AllEnd (after action k outcome) a y
  did_all action k (Ok done) a x y one all = all.0 done y one
  did_all action k (Err refusal) a x y one all = all.1 refusal y one

  rebuilt_all : (slots done : ℕ) (k : ℕ → Program) (answer : Result Progress Refusal) (a : Outside S K) (x y : X) → AllEnd (RebuildAll slots done k) a x
      → AllEnd (after_rebuild slots done k answer) a y
  rebuilt_all slots done k (Ok Nothing) a x y all = all.0 done y
  rebuilt_all slots done k (Ok (Chunk j t)) a x y all = all
  rebuilt_all slots done k (Ok (Promoted j)) a x y all = all
  rebuilt_all slots done k (Ok (Dropped j)) a x y all = all
  rebuilt_all slots done k (Err refusal) a x y all = all.1 refusal y

  -- one item on
  moves_all : (item : TraceItem) (program rest : Program) (a : Outside S K) (s : S) (k' : K) (n : ℕ) (x y : X)
      → ((item : TraceItem) (x y : X) → IsOffDevices item → One item x y → y ≡ x)
      → StepsProgram item program rest → Gives view.source item a.source s → Holds view.sink item a.sink k' → Counts item a.counter n → One item x y
      → AllEnd program a x → AllEnd rest (outside s k' n) y
  moves_all (Found asked) (Ask question k) rest a s k' n x y still moves gives holds counts one all =
      subst (λ (p : Program). AllEnd p (outside s k' n) y) (sym moves.3)
      (subst (λ (z : X). AllEnd (k moves.0) (outside s k' n) z) (sym (still (Found asked) x y tt one))
      (subst (λ (o : Outside S K). AllEnd (k moves.0) o x) (λ i. outside (sym gives i) (sym holds i) n)
      (all moves.0 n moves.2 (subst (λ q. Counts (Found q) a.counter n) moves.1 counts))))
  moves_all (Took bytes) (Take least most k short) rest a s k' n x y still moves gives holds counts one all =
      subst (λ (p : Program). AllEnd p (outside s k' n) y) (sym moves.1)
      (subst (λ (z : X). AllEnd (k bytes) (outside s k' n) z) (sym (still (Took bytes) x y tt one))
      (subst (λ (o : Outside S K). AllEnd (k bytes) o x) (λ i. outside s (sym holds i) (sym counts i)) (all.0 bytes s moves.0 gives)))
  moves_all (TookLast bytes) (Take least most k short) rest a s k' n x y still moves gives holds counts one all =
      subst (λ (p : Program). AllEnd p (outside s k' n) y) (sym moves.1)
      (subst (λ (z : X). AllEnd (short bytes) (outside s k' n) z) (sym (still (TookLast bytes) x y tt one))
      (subst (λ (o : Outside S K). AllEnd (short bytes) o x) (λ i. outside s (sym holds i) (sym counts i)) (all.1 bytes s moves.0 gives)))
  moves_all (TakeFailed bytes) (Take least most k short) rest a s k' n x y still moves gives holds counts one all =
      subst (λ (p : Program). AllEnd p (outside s k' n) y) (sym moves.1)
      (subst (λ (z : X). Q InputFault (outside s k' n) z) (sym (still (TakeFailed bytes) x y tt one))
      (subst (λ (o : Outside S K). Q InputFault o x) (λ i. outside s (sym holds i) (sym counts i)) (all.2 bytes s moves.0 gives)))
  moves_all (HasPut bytes) (Put text program) rest a s k' n x y still moves gives holds counts one all =
      subst (λ (p : Program). AllEnd p (outside s k' n) y) (sym moves.1)
      (subst (λ (z : X). AllEnd program (outside s k' n) z) (sym (still (HasPut bytes) x y tt one))
      (subst (λ (o : Outside S K). AllEnd program o x) (λ i. outside (sym gives i) k' (sym counts i))
      (all.0 k' (subst (λ (t : List ℕ). Holds view.sink (HasPut t) a.sink k') moves.0 holds))))
  moves_all (PutFailed part) (Put text program) rest a s k' n x y still moves gives holds counts one all =
      subst (λ (p : Program). AllEnd p (outside s k' n) y) (sym moves.1)
      (subst (λ (z : X). Q OutputFault (outside s k' n) z) (sym (still (PutFailed part) x y tt one))
      (subst (λ (o : Outside S K). Q OutputFault o x) (λ i. outside (sym gives i) k' (sym counts i)) (all.1 part k' moves.0 holds)))
  moves_all Grew (Allocate program) rest a s k' n x y still moves gives holds counts one all =
      subst (λ (p : Program). AllEnd p (outside s k' n) y) (sym moves)
      (subst (λ (z : X). AllEnd program (outside s k' n) z) (sym (still Grew x y tt one))
      (subst (λ (o : Outside S K). AllEnd program o x) (λ i. outside (sym gives i) (sym holds i) (sym counts i)) all.0))
  moves_all RanOut (Allocate program) rest a s k' n x y still moves gives holds counts one all =
      subst (λ (p : Program). AllEnd p (outside s k' n) y) (sym moves)
      (subst (λ (z : X). Q OutOfMemory (outside s k' n) z) (sym (still RanOut x y tt one))
      (subst (λ (o : Outside S K). Q OutOfMemory o x) (λ i. outside (sym gives i) (sym holds i) (sym counts i)) all.1))
  moves_all (Did did came) (Do action k) rest a s k' n x y still moves gives holds counts one all =
      subst (λ (p : Program). AllEnd p (outside s k' n) y) (sym moves.2)
      (subst (λ (o : Outside S K). AllEnd (after action k moves.0) o y) (λ i. outside (sym gives i) (sym holds i) (sym counts i))
      (did_all action k moves.0 a x y (subst (λ (d : TraceItem). One d x y) moves.1 one) all))
  moves_all (Stepped did came events left) (Try step k) rest a s k' n x y still moves gives holds counts one all =
      subst (λ (p : Program). AllEnd p (outside s k' n) y) (sym moves.2)
      (subst (λ (o : Outside S K). AllEnd (k moves.0 left) o y) (λ i. outside (sym gives i) (sym holds i) (sym counts i)) (all moves.0 left y))
  moves_all (Stepped did came events left) (RebuildAll slots done k) rest a s k' n x y still moves gives holds counts one all =
      subst (λ (p : Program). AllEnd p (outside s k' n) y) (sym moves.2)
      (subst (λ (o : Outside S K). AllEnd (after_rebuild slots done k moves.0) o y) (λ i. outside (sym gives i) (sym holds i) (sym counts i))
      (rebuilt_all slots done k moves.0 a x y all))
  moves_all _ _ rest a s k' n x y still moves gives holds counts one all = absurd moves

  ends_at : (trace : List TraceItem) (program : Program) (status : Status) (a b : Outside S K) (x y : X)
      → ((item : TraceItem) (x y : X) → IsOffDevices item → One item x y → y ≡ x)
      → AlongTrace StepsProgram trace program (Over status) → AlongTrace (Gives view.source) trace a.source b.source → AlongTrace (Holds view.sink) trace a.sink b.sink
      → AlongTrace Counts trace a.counter b.counter → AlongTrace One trace x y → AllEnd program a x → Q status b y
  ends_at [] program status a b x y still follows gives holds counts one all =
      subst (λ (z : X). Q status b z) (sym one)
      (subst (λ (o : Outside S K). Q status o x) (sym (same_outside view a b gives holds counts))
      (subst (λ (p : Program). AllEnd p a x) (sym follows) all))
  ends_at (item ∷ trace) program status a b x y still follows gives holds counts one all =
      ends_at trace follows.0 status (outside gives.0 holds.0 counts.0) b one.0 y still follows.2 gives.2 holds.2 counts.2 one.2
      (moves_all item program follows.0 a gives.0 holds.0 counts.0 x one.0 still follows.1 gives.1 holds.1 counts.1 one.1 all)

-- Over a rack.
module _ {R S K : Type 0} (rack : RackView R) (view : Views S K) (Q : Status → Outside S K → R → Type 0) where
  pub over_all : (program : Program) (status : Status) (a b : Outside S K) (x y : R) → ExecutesOver rack view program (Over status) a b x y
      → AllEnd (Works rack) view Q program a x → Q status b y
  over_all program status a b x y over all =
      ends_at (Works rack) view Q over.means.trace program status a b x y (works_still rack) over.means.follows over.means.bears.gives
      over.means.bears.holds over.means.bears.counts over.works all

-- Where no rack is looked at.
abbrev pub Nowhere : TraceItem → Unit {0} → Unit {0} → Type 0
Nowhere item x y = y ≡ x

nowhere_along : (trace : List TraceItem) → AlongTrace Nowhere trace tt tt
nowhere_along [] = refl
nowhere_along (item ∷ trace) = (tt, refl, nowhere_along trace)

module _ {S K : Type 0} (view : Views S K) (Q : Status → Outside S K → Unit {0} → Type 0) where
  pub means_all : (program : Program) (status : Status) (a b : Outside S K) → Executes view program (Over status) a b → AllEnd Nowhere view Q program a tt
      → Q status b tt
  means_all program status a b means all =
      ends_at Nowhere view Q means.trace program status a b tt tt (λ item x y off same. same) means.follows means.bears.gives means.bears.holds
      means.bears.counts (nowhere_along means.trace) all

-- A program that by itself ends so alone, where faults and lack of memory are so too.
module _ {X S K : Type 0} (One : TraceItem → X → X → Type 0) (view : Views S K) (P : Status → Type 0) (input : P InputFault) (output : P OutputFault)
    (memory : P OutOfMemory) where
  pub ends_all : (program : Program) (a : Outside S K) (x : X) → EndsIn P program → AllEnd One view (λ status b y. P status) program a x
  ends_all (Over status) a x ends = ends
  ends_all (Ask question k) a x ends = λ reply n is counts. ends_all (k reply) (outside a.source a.sink n) x (ends reply is)
  ends_all (Take least most k short) a x ends = (
    λ bytes s enough gives. ends_all (k bytes) (outside s a.sink a.counter) x (ends.0 bytes),
    λ bytes s few gives. ends_all (short bytes) (outside s a.sink a.counter) x (ends.1 bytes),
    λ bytes s few gives. input,
  )
  ends_all (Put bytes program) a x ends = (λ s holds. ends_all program (outside a.source s a.counter) x ends, λ part s is holds. output)
  ends_all (Allocate program) a x ends = (ends_all program a x ends, memory)
  ends_all (Do action k) a x ends = (λ done y one. ends_all (k done) a y (ends.0 done), λ refusal y one. ends.1 refusal)
  ends_all (Try step k) a x ends = λ answer left y. ends_all (k answer left) a y (ends answer left)
  ends_all (RebuildAll slots done k) a x ends = (λ count y. ends_all (k count) a y (ends.0 count), λ refusal y. ends.1 refusal)
