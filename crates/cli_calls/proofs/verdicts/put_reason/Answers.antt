use Rattle.cli_calls.proofs.verdicts.put_reason.Goals as goal

pub returns-in-SecretBranch : goal.returns-in-SecretBranch
returns-in-SecretBranch g c = rw c.in-SecretBranch.is c.put_all.ensures.put

pub returns-in-SecretAddress : goal.returns-in-SecretAddress
returns-in-SecretAddress g c = rw c.in-SecretAddress.is c.put_all-in-SecretAddress.ensures.put

pub returns-in-OutsideAccess : goal.returns-in-OutsideAccess
returns-in-OutsideAccess g c = rw c.in-OutsideAccess.is c.put_all-in-OutsideAccess.ensures.put

pub returns-in-SecretAtExit : goal.returns-in-SecretAtExit
returns-in-SecretAtExit g c = rw c.in-SecretAtExit.is c.put_all-in-SecretAtExit.ensures.put

pub returns-in-UnknownTarget : goal.returns-in-UnknownTarget
returns-in-UnknownTarget g c = rw c.in-UnknownTarget.is c.put_all-in-UnknownTarget.ensures.put
