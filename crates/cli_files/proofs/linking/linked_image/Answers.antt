use Rattle.cli_files.proofs.linking.linked_image.Goals as goal

pub returns-in-Ok-clause-image : goal.returns-in-Ok-clause-image
returns-in-Ok-clause-image c = c.in-Ok.ensures.links.linked
