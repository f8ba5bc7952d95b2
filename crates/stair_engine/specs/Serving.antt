-- What `serve` does: it opens an array and serves one client.
use Rattle.stair_nbd.specs.Client.{client_program}
use Rattle.stair_command.specs.Program.{Program, Allocate, opens_array}

-- takes memory for all that a client sends at once before it looks for the array
abbrev pub serve_program : Program
serve_program = Allocate (opens_array client_program)
