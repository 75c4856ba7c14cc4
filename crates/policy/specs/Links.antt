-- The ring that the code's links make. Assumes nothing.
use Rattle.policy.specs.LinkedList.{Ring}
use Rattle.policy.specs.declared.lru.links.Links.{Links}

abbrev pub ring : Links → Ring
ring l = record { next = l.next; previous = l.previous }
