mod Alongside
mod Ordered
mod Conflicts
mod Settled
mod Wayside
mod Statuses
mod Runs
