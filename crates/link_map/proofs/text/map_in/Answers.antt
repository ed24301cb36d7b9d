use Rattle.link_map.proofs.text.map_in.Goals as goal

pub text_of-requires-clause-image : goal.text_of-requires-clause-image
text_of-requires-clause-image c = c.in-Ok.ensures.links.linked
