pub mod CircleQueues
pub mod ClockSweeps
pub mod LinkedLists
pub mod Orders
