use Rattle.sm_cli.proofs.commands.CommandLineAnswering.answer.Goals as goal

pub returns-in-Image-clause-ok : goal.returns-in-Image-clause-ok
returns-in-Image-clause-ok g c = rw c.in-Image.is c.answer.ensures.ok

pub returns-in-Key-clause-ok : goal.returns-in-Key-clause-ok
returns-in-Key-clause-ok g c = rw c.in-Key.is c.answer-in-Key.ensures.ok

pub returns-in-Dis-clause-ok : goal.returns-in-Dis-clause-ok
returns-in-Dis-clause-ok g c = rw c.in-Dis.is c.answer-in-Dis.ensures.ok

pub returns-in-Vendor-clause-ok : goal.returns-in-Vendor-clause-ok
returns-in-Vendor-clause-ok g c = rw c.in-Vendor.is c.answer-in-Vendor.ensures.ok

pub returns-in-Check-clause-ok : goal.returns-in-Check-clause-ok
returns-in-Check-clause-ok g c = rw c.in-Check.is c.answer-in-Check.ensures.ok

pub returns-in-Balance-clause-ok : goal.returns-in-Balance-clause-ok
returns-in-Balance-clause-ok g c = rw c.in-Balance.is c.answer-in-Balance.ensures.ok

pub returns-in-Link-clause-ok : goal.returns-in-Link-clause-ok
returns-in-Link-clause-ok g c = rw c.in-Link.is c.answer-in-Link.ensures.ok

pub returns-in-Run-clause-ok : goal.returns-in-Run-clause-ok
returns-in-Run-clause-ok g c = rw c.in-Run.is c.answer-in-Run.ensures.ok
