-- The lines of volumes that are put out.
use Rattle.std.proofs.Common.{◌≡◌, ◌∙◌, ◌+◌, ◌<◌, ◌≤◌, ℕ, List, [], ◌++◌, arith, Ok, Err, Result, drop, length, ap, refl, subst, sym}
use Rattle.std.specs.Prelude.{get_or}
use Rattle.std.specs.Result.{IsErrAnd}
use Rattle.std.proofs.lemmas.List.{at_drop_all, at_drop_more}
use Rattle.std.proofs.lemmas.List.Elements.{All-append, All-nil}
use Rattle.stair_command.specs.Executes.{Holds}
use Rattle.stair_command.specs.Outside.{SinkView}
use Rattle.stair_command.specs.Program.{Program, Over, Put}
use Rattle.stair_command.specs.Trace.{StepsProgram}
use Rattle.stair_command.specs.Talks.{IsPut, PutsTo}
use Rattle.stair_status.specs.declared.status.Status.TheVariants.{Done}
use Rattle.stair_command.proofs.ProgramLaws.{leads_then}
use Rattle.stair_volume.specs.declared.extent.Entry.{Entry}
use Rattle.stair_volume.specs.declared.fault.VolumeFault.{VolumeFault}
use Rattle.stair_volume.specs.Commands.{lists, status_of, status_of_volume, volume_line}

-- the bytes of a line that has this only
pub line_bytes : (bytes line start text : List ℕ) → bytes ≡ line → line ≡ start ++ text → start ≡ [] → bytes ≡ text
line_bytes bytes line start text are is none = are ∙ is ∙ ap (λ (l : List ℕ). l ++ text) none

module _ {K : Type 0} (view : SinkView K) where
  pub puts_none : (program : Program) (k : K) → PutsTo view program program k k
  puts_none program k = record { trace = []; put = All-nil IsPut; follows = refl; holds = refl }

  puts_then : {program mid rest : Program} {k l m : K} → PutsTo view program mid k l → PutsTo view mid rest l m → PutsTo view program rest k m
  puts_then {program} {mid} {rest} {k} {l} {m} first later = record {
    trace = first.trace ++ later.trace;
    put = All-append IsPut first.trace later.trace first.put later.put;
    follows = leads_then StepsProgram first.trace later.trace program mid rest first.follows later.follows;
    holds = leads_then (Holds view) first.trace later.trace k l m first.holds later.holds;
  }

  -- so many were put out, and the line of the next one, or not
  pub list_next : (entries items : List Entry) (i : ℕ) (entry : Entry) (line : List ℕ) (rest : Program → Program) {k l m : K} → items ≡ entries
      → i < length items → entry ≡ get_or items i entry → line ≡ volume_line entry.name entry.extent
      → PutsTo view (lists entries) (lists (drop i entries)) k l → ((later : Program) → PutsTo view (Put line later) (rest later) l m)
      → PutsTo view (lists entries) (rest (lists (drop (i + 1) entries))) k m
  list_next entries items i entry line rest {k} {l} {m} same below is says so_far puts =
      let later = lists (drop (i + 1) entries) in
      puts_then so_far
      (subst (λ (program : Program). PutsTo view program (rest later) l m)
      (ap (λ (said : List ℕ). Put said later) says
      ∙ ap (λ (e : Entry). Put (volume_line e.name e.extent) later) (is ∙ ap (λ (es : List Entry). get_or es i entry) same)
      ∙ sym (at_drop_more lists entries i entry (omega (arith, below, ap length same))))
      (puts later))

  -- all were
  pub list_all : (entries items : List Entry) (i : ℕ) {k l : K} → items ≡ entries → length items ≤ i
      → PutsTo view (lists entries) (lists (drop i entries)) k l → PutsTo view (lists entries) (Over Done) k l
  list_all entries items i {k} {l} same past so_far =
      subst (λ (rest : Program). PutsTo view (lists entries) rest k l) (at_drop_all lists entries i (omega (arith, past, ap length same))) so_far

  -- a fault that was handed on
  pub puts_fail : {program : Program} {k l : K} (slots : ℕ) (result : Result (Unit {0}) VolumeFault) (why : VolumeFault) → IsErrAnd result (λ f. f ≡ why)
      → PutsTo view program (Over (status_of_volume slots why)) k l → PutsTo view program (Over (status_of slots result)) k l
  puts_fail slots (Ok done) why is puts = absurd is
  puts_fail {program} {k} {l} slots (Err f) why is puts = subst (λ (f : VolumeFault). PutsTo view program (Over (status_of_volume slots f)) k l) (sym is) puts
