-- Letters: p a plan, a answers, m marks, t a task, x its new answer.
pub mod Change
