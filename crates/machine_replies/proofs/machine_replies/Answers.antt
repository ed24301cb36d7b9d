use Rattle.machine_replies.proofs.Traces.{cycles_are_told, machine_traces_are_read, genuine_was_sent}
use Rattle.machine_replies.proofs.machine_replies.Goals as goal

pub returns : goal.returns
returns c = record { told = cycles_are_told; read = machine_traces_are_read; genuine = genuine_was_sent }
