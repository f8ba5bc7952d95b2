use Rattle.std.proofs.Common.{None, lit<, subst, sym}
use Rattle.std.specs.Prelude.{codes}
use Rattle.std.proofs.lemmas.Str.Pattern.{split_parts}
use Rattle.stair_script.specs.declared.line.Line.TheVariants.{Read, Scrub, Replace, Rebuild}
use Rattle.stair_script.proofs.ReadLemmas.{ReadsLine, behind, command_read, mapped, no_command_read, no_line_read, read_makes, rebuild_makes, replace_makes, scrub_makes, split_at_space}
use Rattle.stair_script.proofs.reading.read_command.Goals as goal

pub returns-in_err-command : goal.returns-in_err-command
returns-in_err-command c =
    subst (ReadsLine c.args.line.now) (sym c.from_residual.ensures)
    (no_line_read c.args.line.now c.requires (split_parts 32 c.args.line.now None c.in_err-command.ensures.cases (lit< tt)))

pub returns-in-read : goal.returns-in-read
returns-in-read c =
    let parts = split_at_space c.args.line.now c.in_ok-command.command c.in_ok-command.values c.in_ok-command.ensures.cases in
    command_read (codes "read") Read read_makes c.args.line.now c.in_ok-command.command.now c.in_ok-command.values.now c.read_number.result c.map.result
    parts.0 c.in-read.is c.read_number.ensures (mapped Read _ _ c.map.ensures.cases)

pub returns-in-write : goal.returns-in-write
returns-in-write c =
    let parts = split_at_space c.args.line.now c.in_ok-command.command c.in_ok-command.values c.in_ok-command.ensures.cases in
    behind c.args.line.now c.in_ok-command.command.now c.in_ok-command.values.now (codes "write") c.read_write.result parts.0 c.in-write.is c.read_write.ensures

pub returns-in-scrub : goal.returns-in-scrub
returns-in-scrub c =
    let parts = split_at_space c.args.line.now c.in_ok-command.command c.in_ok-command.values c.in_ok-command.ensures.cases in
    command_read (codes "scrub") Scrub scrub_makes c.args.line.now c.in_ok-command.command.now c.in_ok-command.values.now c.read_number-in-scrub.result c.map-in-scrub.result
    parts.0 c.in-scrub.is c.read_number-in-scrub.ensures (mapped Scrub _ _ c.map-in-scrub.ensures.cases)

pub returns-in-replace : goal.returns-in-replace
returns-in-replace c =
    let parts = split_at_space c.args.line.now c.in_ok-command.command c.in_ok-command.values c.in_ok-command.ensures.cases in
    command_read (codes "replace") Replace replace_makes c.args.line.now c.in_ok-command.command.now c.in_ok-command.values.now c.read_number-in-replace.result c.map-in-replace.result
    parts.0 c.in-replace.is c.read_number-in-replace.ensures (mapped Replace _ _ c.map-in-replace.ensures.cases)

pub returns-in-rebuild : goal.returns-in-rebuild
returns-in-rebuild c =
    let parts = split_at_space c.args.line.now c.in_ok-command.command c.in_ok-command.values c.in_ok-command.ensures.cases in
    command_read (codes "rebuild") Rebuild rebuild_makes c.args.line.now c.in_ok-command.command.now c.in_ok-command.values.now c.read_number-in-rebuild.result c.map-in-rebuild.result
    parts.0 c.in-rebuild.is c.read_number-in-rebuild.ensures (mapped Rebuild _ _ c.map-in-rebuild.ensures.cases)

pub returns-in_default : goal.returns-in_default
returns-in_default c =
    let parts = split_at_space c.args.line.now c.in_ok-command.command c.in_ok-command.values c.in_ok-command.ensures.cases in
    no_command_read c.args.line.now c.in_ok-command.command.now c.in_ok-command.values.now c.requires parts.0 parts.1 (record {
      no_read = c.in_default.not-read;
      no_write = c.in_default.not-write;
      no_scrub = c.in_default.not-scrub;
      no_replace = c.in_default.not-replace;
      no_rebuild = c.in_default.not-rebuild;
    })
