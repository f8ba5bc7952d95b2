-- What the program of a client's session does by itself.
use Rattle.std.proofs.Common.{ℕ, Bool, arith}
use Rattle.stair_model.specs.Geometry.{Geometry}
use Rattle.stair_array.specs.Machine.{Answer, ReadBlock, Step, WriteBlocks}
use Rattle.stair_nbd.specs.Client.{client_program}
use Rattle.stair_nbd.proofs.ClientLaws.{IsEnd, IsOfRequest, client_so}
use Rattle.stair_command.specs.Ending.{AdmitsNone, AllowsAtMost, AsksForNone, EachStep, EndsIn}
use Rattle.stair_command.specs.Program.{Program, Over, Try}
use Rattle.stair_status.specs.declared.status.Status.{Status}
use Rattle.stair_status.specs.declared.status.Status.TheVariants.{BadMessage, Done, Input}
use Rattle.stair_engine.proofs.OpenLaws.{IsOfJob}

end_own : (status : Status) → IsEnd status → IsOfJob status
end_own Done is = ((λ is. cc, λ is. cc), λ is. cc)
end_own (Input needed took) is = ((λ is. cc, λ is. cc), λ is. cc)
end_own (BadMessage number) is = ((λ is. cc, λ is. cc), λ is. cc)
end_own _ is = absurd is

pub client_own : (g : Geometry) → EndsIn IsOfJob (client_program g)
client_own g = client_so g (EndsIn IsOfJob) (record {
  ends = end_own;
  takes = λ n k short behind end. (behind, end);
  puts = λ bytes program behind. behind;
  tries = λ step k of behind. behind;
})

-- no memory is asked for
end_none : (status : Status) → IsEnd status → AsksForNone (Over status)
end_none Done is = λ short. cc
end_none (Input needed took) is = λ short. cc
end_none (BadMessage number) is = λ short. cc
end_none _ is = absurd is

pub client_none : (g : Geometry) → AsksForNone (client_program g)
client_none g = client_so g AsksForNone (record {
  ends = end_none;
  takes = λ n k short behind end. (behind, end);
  puts = λ bytes program behind. behind;
  tries = λ step k of behind. behind;
})

-- a step of a request admits no medium, and is allowed no draw
pub client_admits_none : (g : Geometry) → EachStep AdmitsNone (client_program g)
client_admits_none g = client_so g (EachStep AdmitsNone) (record {
  ends = λ status is. tt;
  takes = λ n k short behind end. (behind, end);
  puts = λ bytes program behind. behind;
  tries = λ step k of behind. (none step of, behind);
})
  where
    none : (step : Step) → IsOfRequest g step → AdmitsNone step
    none (ReadBlock block) of = tt
    none (WriteBlocks first contents) of = tt
    none _ of = absurd of

pub client_allowed : (n : ℕ) (g : Geometry) → AllowsAtMost n (client_program g)
client_allowed n g = client_so g (AllowsAtMost n) (record {
  ends = λ status is. tt;
  takes = λ m k short behind end. (behind, end);
  puts = λ bytes program behind. behind;
  tries = tried;
})
  where
    tried : (step : Step) (k : Answer step → Bool → Program) → IsOfRequest g step → ((answer : Answer step) (left : Bool) → AllowsAtMost n (k answer left))
        → AllowsAtMost n (Try step k)
    tried (ReadBlock block) k of behind = (n, omega arith, behind)
    tried (WriteBlocks first contents) k of behind = (n, omega arith, behind)
    tried _ k of behind = absurd of
