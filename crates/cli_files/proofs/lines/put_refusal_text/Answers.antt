use Rattle.std.proofs.Common.{sym, ◌∙◌}
use Rattle.cli_files.specs.Refusal.{refusal_text}
use Rattle.cli_files.proofs.lines.put_refusal_text.Goals as goal

pub returns-in-Usage : goal.returns-in-Usage
unfolding refusal_text
returns-in-Usage g c = rw c.in-Usage.is c.put_all.ensures.put

pub returns-in-NoMemory : goal.returns-in-NoMemory
unfolding refusal_text
returns-in-NoMemory g c = rw c.in-NoMemory.is c.put_all-in-NoMemory.ensures.put

pub returns-in-CannotRead : goal.returns-in-CannotRead
unfolding refusal_text
returns-in-CannotRead g c = rw (c.in-CannotRead.is, sym (c.as_bytes-name.ensures.value ∙ c.as_str.ensures)) c.put_named.ensures

pub returns-in-BadFile : goal.returns-in-BadFile
unfolding refusal_text
returns-in-BadFile g c = rw (c.in-BadFile.is, sym (c.as_bytes-name.ensures.value ∙ c.as_str.ensures)) c.put_bad_file.ensures

pub returns-in-Link : goal.returns-in-Link
unfolding refusal_text
returns-in-Link g c = rw (c.in-Link.is, sym (c.as_bytes-name.ensures.value ∙ c.as_str.ensures)) c.put_link_refusal.ensures
