-- Letters: as in journal and points; h what is held, m a move, ms a list of moves, n a number of steps.
pub mod Return
pub mod Rewound
pub mod Session
