use Rattle.jdwp_debugger.proofs.ProtocolAsks.{asked-mirror, asked-packet, asked-refused, asked-waits}
use Rattle.jdwp_debugger.proofs.debugger.Debugger.ask.Goals as goal

pub returns-clause-packet : goal.returns-clause-packet
returns-clause-packet c = asked-packet c.args.command c.args.self.now c.put_command.new.self c.put_command.result (c.put_command.ensures.ok, c.put_command.ensures.err)

pub returns-clause-waits : goal.returns-clause-waits
returns-clause-waits c = asked-waits c.args.command c.args.self.now c.put_command.new.self c.put_command.result (c.put_command.ensures.ok, c.put_command.ensures.err)

pub returns-clause-mirror : goal.returns-clause-mirror
returns-clause-mirror c = asked-mirror c.args.command c.args.self.now c.put_command.new.self c.put_command.result (c.put_command.ensures.ok, c.put_command.ensures.err)

pub returns-clause-refused : goal.returns-clause-refused
returns-clause-refused c = asked-refused c.args.command c.args.self.now c.put_command.new.self c.put_command.result (c.put_command.ensures.ok, c.put_command.ensures.err)
