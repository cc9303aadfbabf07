-- `host::resume` meets its contract. Assumes nothing.
use Rattle.event_rules.specs.Events.{bus_resume}
use Rattle.host_rules.specs.Host.{resume_call}
use Rattle.host.proofs.resume.Goals as goal

pub returns : goal.returns
unfolding resume_call bus_resume
returns c = c.on_signal.ensures
