-- A connection as a pipe, and a client whose session begins there.
use Rattle.std.specs.Prelude.{◌≡◌, [], None}
use Rattle.jdwp_end.specs.Story.{Story, empty_story}
use Rattle.jdwp_end.specs.Streams as streams
use Rattle.jdwp_debugger.specs.Debuggers.{attached, new_debugger_in}
use Rattle.jdwp_client.specs.declared.options.Options.{Options}
use Rattle.jdwp_client.specs.Clients.{Client}
use Rattle.jdwp_client_port.specs.declared.connection.Connection.{Connection}

-- what went through it
abbrev pub story_of : {S C : Type 0} → Connection S C → Story
story_of c = streams.story_of c.streams

-- The handshake is to leave, nothing went through the connection, and nothing is kept.
abbrev pub IsBegun : {S C : Type 0} → Options → Client (Connection S C) → Type 0
IsBegun options client =
    (client ≡ record { debugger = attached (new_debugger_in options.order options.limits options.first_id); pipe = client.pipe; events = []; answers = []; sent = None; lost = None; most_events = options.most_events })
    × (story_of client.pipe ≡ empty_story)
