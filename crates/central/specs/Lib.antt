-- Letters: p a plan, s a central state, e an event, v a node, u its parent, cs children, m a mark, a an answer, b a byte.
pub mod Mark
pub mod Central
pub mod Scan
pub mod Ruling
pub mod Rule
pub mod Replay
