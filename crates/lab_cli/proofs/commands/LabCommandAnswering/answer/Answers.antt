use Rattle.lab_cli.proofs.commands.LabCommandAnswering.answer.Goals as goal

pub returns-in-Map-clause-ok : goal.returns-in-Map-clause-ok
returns-in-Map-clause-ok g c = rw c.in-Map.is c.answer.ensures.ok

pub returns-in-Steps-clause-ok : goal.returns-in-Steps-clause-ok
returns-in-Steps-clause-ok g c = rw c.in-Steps.is c.answer-in-Steps.ensures.ok

pub returns-in-Released-clause-ok : goal.returns-in-Released-clause-ok
returns-in-Released-clause-ok g c = rw c.in-Released.is c.answer-in-Released.ensures.ok

pub returns-in-Terms-clause-ok : goal.returns-in-Terms-clause-ok
returns-in-Terms-clause-ok g c = rw c.in-Terms.is c.answer-in-Terms.ensures.ok
